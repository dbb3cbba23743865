use Rattle.std.proofs.Common.{refl}
use Rattle.checksum.specs.Crc.{feed_bit, feed_bits, feed_byte, feed_bytes, crc_of}
use Rattle.copy_images.specs.Images.{with_crc}
use Rattle.delta_bytes.specs.RangeLists.{ranges_encoding}
use Rattle.delta_bytes.specs.Deltas.{first_front}
use Rattle.delta_bytes.proofs.laws.the_bytes_of_version_0_of_an_empty_delta.Goals as goal

pub returns : goal.returns
unfolding first_front ranges_encoding with_crc crc_of feed_bytes feed_byte feed_bits feed_bit
returns c = refl
