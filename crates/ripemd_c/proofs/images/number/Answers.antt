use Rattle.std.proofs.Common.{◌≡◌, refl}
use denote.Enum.Declared.{tag_of}
use Rattle.compress.specs.contracts.Width.{the_type}
use Rattle.compress.specs.declared.Width.{Width}
use Rattle.compress.specs.declared.Width.TheVariants.{W128, W160, W256, W320}
use Rattle.ripemd_c.specs.Image.{width_number}
use Rattle.ripemd_c.proofs.images.number.Goals as goal

-- the enum's cases are in the order of the image's numbers
in_order : (w : Width) → tag_of the_type w ≡ width_number w
unfolding width_number
in_order W160 = refl
in_order W320 = refl
in_order W128 = refl
in_order W256 = refl

pub returns : goal.returns
returns c = in_order c.args.w
