use Rattle.std.proofs.Common.{refl}
use Rattle.copy_images.specs.Images.{head_of, range_encoding, front_of}
use Rattle.copy_images.proofs.laws.a_front_of_one_range.Goals as goal

pub returns : goal.returns
unfolding head_of front_of range_encoding
returns c = refl
