use Rattle.std.proofs.Common.{refl}
use Rattle.checksum.specs.Crc.{feed_bit, feed_bits, feed_byte, feed_bytes, crc_of}
use Rattle.copy_images.specs.Images.{first_head, front_of, with_crc}
use Rattle.copy_images.proofs.laws.the_image_of_version_0_of_an_empty_copy.Goals as goal

pub returns : goal.returns
unfolding first_head front_of with_crc crc_of feed_bytes feed_byte feed_bits feed_bit
returns c = refl
