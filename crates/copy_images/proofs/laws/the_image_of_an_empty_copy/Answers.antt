use Rattle.std.proofs.Common.{refl}
use Rattle.checksum.specs.Crc.{feed_bit, feed_bits, feed_byte, feed_bytes, crc_of}
use Rattle.copy_images.specs.Images.{head_of, front_of, with_crc}
use Rattle.copy_images.proofs.laws.the_image_of_an_empty_copy.Goals as goal

pub returns : goal.returns
unfolding head_of front_of with_crc crc_of feed_bytes feed_byte feed_bits feed_bit
returns c = refl
