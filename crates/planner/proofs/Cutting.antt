-- A list that is cut one byte past the longest gets the same report.
use Rattle.std.proofs.Common.{◌≡◌, ℕ, ◌+◌, ◌<◌, List, length, take, Err, sym, ap, ◌∙◌, arith}
use native.Mathlib.Decide.{dec_lt}
use lib.Seq.{length-take-le, take_all}
use Rattle.std.proofs.lemmas.Bool.Decides.{nat_tests}
use Rattle.std.proofs.lemmas.List.{take-take}
use Rattle.plan_list.specs.declared.slip.Slip.TheVariants.{TooLong}
use Rattle.std.specs.List.{count_by}
use Rattle.plan_list.specs.Words.{is_newline}
use Rattle.plan_list.specs.List.{slip_at, slipped, line_at, no_lines, read_of}
use Rattle.planner.specs.Plan.{read_report, plan_of}

too_long : (text : List ℕ) → 65536 < length text → read_of text ≡ Err (slipped no_lines (slip_at (line_at text 65536) TooLong))
unfolding read_of
too_long text h = grind (arith, nat_tests)

read_cut : (text : List ℕ) → read_of (take 65537 text) ≡ read_of text
read_cut text = go (dec_lt 65537 (length text))
  where
    go : Dec (65537 < length text) → read_of (take 65537 text) ≡ read_of text
    go (no n) = ap read_of (take_all 65537 text (omega arith))
    go (yes l) =
        too_long (take 65537 text) (omega (arith, length-take-le 65537 text (omega arith)))
        ∙ ap (λ t. Err (slipped no_lines (slip_at (count_by is_newline t + 1) TooLong))) (take-take 65536 65537 text (omega arith))
        ∙ sym (too_long text (omega arith))

pub cut_plan : (text : List ℕ) → plan_of (take 65537 text) ≡ plan_of text
unfolding plan_of
cut_plan text = ap read_report (read_cut text)
