use Rattle.std.proofs.Common.{◌∙◌, append-nil, take, drop}
use Rattle.words.specs.Bytes.{words_of}
use Rattle.ripemd_c.specs.Image.{state_of}
use Rattle.ripemd_c.proofs.images.state.Goals as goal

pub returns : goal.returns
unfolding state_of
returns c =
    rw (
      c.width.ensures,
      c.get.ensures.0,
      c.get-2.ensures.0,
      c.get_words.ensures ∙ append-nil (words_of 10 (take 40 (drop 24 c.args.image.now))),
      c.copy_from_slice.ensures.after,
    )
