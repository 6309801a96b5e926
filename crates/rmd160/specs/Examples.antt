-- The scope's answer for empty input, in full.
-- Assumes nothing.
use Rattle.std.specs.Prelude.{ℕ, ◌≡◌, refl, [], Ok}
use Rattle.words.specs.Words.{rol_of, f_of}
use Rattle.tables.specs.Rule.{order_of, shift_of, k_of, function_of}
use Rattle.lines.specs.Steps.{step_of, step_at, steps_of, pair_steps}
use Rattle.rounds.specs.Rounds.{rounds_of}
use Rattle.compress.specs.Block.{combine_of, compress_of, blocks_of}
use Rattle.ripemd.specs.Digest.{digest_from}
use Rattle.text.specs.Text.{ascii, decimal_of, digits_of, hex_digit}
use Rattle.rmd160.specs.Lines.{answer_of}

empty_input : answer_of {T = ℕ} (Ok 0) [] ≡ ascii "width=160\nbytes=0\ndigest=9c1185a5c5e9fc54612808977ee8f548b2258d31\n"
unfolding answer_of decimal_of digits_of hex_digit digest_from blocks_of compress_of rounds_of combine_of pair_steps steps_of step_at step_of rol_of f_of order_of shift_of k_of function_of
empty_input = refl
