-- Laws of what is read: the entries alone, or the slip alone; how many lines were looked at; what stands before a slip.
use Rattle.std.proofs.Common.{◌≡◌, ℕ, suc, ◌+◌, ◌≤◌, List, [], ◌∷◌, ◌++◌, length, take, cond, ltb, Bool, true, false, Result, Ok, Err, refl, ap, sym, ◌∙◌, arith}
use Rattle.std.specs.Result.{result_map_both}
use Rattle.target_bin.specs.declared.chamber.TargetBin.{TargetBin}
use Rattle.grouped_rects_to_place.specs.declared.rect_to_place.RectToPlace.{RectToPlace}
use Rattle.plan_list.specs.declared.slip.Slip.{Slip}
use Rattle.plan_list.specs.declared.slip.Slip.TheVariants.{TooLong}
use Rattle.plan_list.specs.declared.slip.SlipAt.{SlipAt}
use Rattle.plan_list.specs.declared.line_said.Said.{Said}
use Rattle.plan_list.specs.declared.line_said.Said.TheVariants.{Nothing, Chamber, Coil}
use Rattle.plan_list.specs.declared.list.OnLine.{OnLine}
use Rattle.plan_list.specs.declared.list.PlanList.{PlanList}
use Rattle.plan_list.specs.declared.list.Slipped.{Slipped}
use Rattle.plan_list.specs.Words.{lines_of, uncommented, words_of}
use Rattle.plan_list.specs.Said.{line_said, ◌>>=◌}
use Rattle.plan_list.specs.List.{on_line, slip_at, slipped, next_line, added, slipped_in, add_line, add_lines, line_at, no_lines, read_of}
use Rattle.plan_list.proofs.Lines.{read_starts, looked_at, line_counts}

-- chambers and coils, each with its line
pub record Entries : Type 0 where
  pub chambers : List (OnLine TargetBin)
  pub coils : List (OnLine RectToPlace)

abbrev pub entries : List (OnLine TargetBin) → List (OnLine RectToPlace) → Entries
entries chambers coils = record { chambers = chambers; coils = coils }

abbrev pub entries_of : PlanList → Entries
entries_of l = entries l.chambers.items l.coils.items

-- the entries, or the slip, of an answer
abbrev pub slip_of : Result PlanList Slipped → Result Entries SlipAt
slip_of r = result_map_both entries_of (λ s. s.at) r

-- ---- the same read by itself

abbrev pub add_said : ℕ → Entries → Said → Entries
add_said line l Nothing = l
add_said line l (Chamber b) = entries (l.chambers ++ on_line line b ∷ []) l.coils
add_said line l (Coil c) = entries l.chambers (l.coils ++ on_line line c ∷ [])

abbrev pub read_line : ℕ → List ℕ → Entries → Result Entries SlipAt
read_line line text l =
    result_map_both (add_said line l) (slip_at line)
    (line_said (words_of (uncommented text)) (length l.chambers) (length l.coils))

-- line after line, from the number of the first on, up to the first slip
unfoldable pub read_lines : ℕ → List (List ℕ) → Entries → Result Entries SlipAt
read_lines line [] l = Ok l
read_lines line (text ∷ texts) l = read_line line text l >>= read_lines (line + 1) texts

unfoldable pub entries_read : List ℕ → Result Entries SlipAt
entries_read text =
    cond (ltb 65536 (length text)) (Err (slip_at (line_at text 65536) TooLong)) (read_lines 1 (lines_of text) (entries [] []))

-- ---- it is the same

slip_of_lines : (texts : List (List ℕ)) (l : PlanList) → slip_of (add_lines texts l) ≡ read_lines (l.lines + 1) texts (entries_of l)
unfolding add_lines read_lines
slip_of_lines [] l = refl
slip_of_lines (text ∷ texts) l =
    go (line_said (words_of (uncommented text)) (length l.chambers.items) (length l.coils.items)) (λ l'. slip_of_lines texts l')
  where
    go :
        (r : Result Said Slip)
        → ((l' : PlanList) → slip_of (add_lines texts l') ≡ read_lines (l'.lines + 1) texts (entries_of l'))
        → slip_of (result_map_both (added (next_line l)) (slipped_in (next_line l)) r >>= add_lines texts)
        ≡ result_map_both (add_said (l.lines + 1) (entries_of l)) (slip_at (l.lines + 1)) r >>= read_lines (l.lines + 1 + 1) texts
    go (Ok Nothing) k = k (next_line l)
    go (Ok (Chamber b)) k = k (added (next_line l) (Chamber b))
    go (Ok (Coil c)) k = k (added (next_line l) (Coil c))
    go (Err slip) k = refl

pub slip_of_read : (text : List ℕ) → slip_of (read_of text) ≡ entries_read text
unfolding read_of entries_read
slip_of_read text = go (ltb 65536 (length text))
  where
    go :
        (long : Bool)
        → slip_of (cond long (Err (slipped no_lines (slip_at (line_at text 65536) TooLong))) (add_lines (lines_of text) no_lines))
        ≡ cond long (Err (slip_at (line_at text 65536) TooLong)) (read_lines 1 (lines_of text) (entries [] []))
    go true = refl
    go false = slip_of_lines (lines_of text) no_lines

-- ---- a list has all lines

counts : (texts : List (List ℕ)) (l l' : PlanList) → add_lines texts l ≡ Ok l' → l'.lines ≡ l.lines + length texts
unfolding add_lines
counts [] l l' e = omega (arith, ap looked_at e)
counts (text ∷ texts) l l' e = go (add_line text l) refl (λ l₁. counts texts l₁ l')
  where
    go : (r : Result PlanList Slipped) → add_line text l ≡ r → ((l₁ : PlanList) → add_lines texts l₁ ≡ Ok l' → l'.lines ≡ l₁.lines + length texts) → l'.lines ≡ l.lines + length (text ∷ texts)
    go (Ok l₁) q k = omega (arith, k l₁ (sym (ap (λ r. r >>= add_lines texts) q) ∙ e), line_counts text l l₁ (Ok tt) q)
    go (Err s) q k = let z : Err s ≡ Ok l' = sym (ap (λ r. r >>= add_lines texts) q) ∙ e in cc

pub read_counts : (text : List ℕ) (l : PlanList) → length text ≤ 65536 → read_of text ≡ Ok l → l.lines ≡ length (lines_of text)
read_counts text l h e = omega (arith, counts (lines_of text) no_lines l (sym (read_starts text h) ∙ e))

-- ---- what stands before a slip

-- some lines in front are read; the next one is looked at too, and has the slip
pub record Before (texts : List (List ℕ)) (l : PlanList) (s : Slipped) : Type 0 where
  pub count : ℕ
  pub read : PlanList
  pub adds : add_lines (take count texts) l ≡ Ok read
  pub lines : read.lines ≡ l.lines + count
  pub list : s.list ≡ next_line read
  pub line : s.at.line ≡ read.lines + 1

line_stops : (text : List ℕ) (l : PlanList) (s : Slipped) → add_line text l ≡ Err s → (s.list ≡ next_line l) × (s.at.line ≡ l.lines + 1)
line_stops text l s = go (line_said (words_of (uncommented text)) (length l.chambers.items) (length l.coils.items))
  where
    go : (r : Result Said Slip) → result_map_both (added (next_line l)) (slipped_in (next_line l)) r ≡ Err s → (s.list ≡ next_line l) × (s.at.line ≡ l.lines + 1)
    go (Ok said) e = absurd (cc)
    go (Err slip) e = let q : s ≡ slipped_in (next_line l) slip = cc in (ap (λ (x : Slipped). x.list) q, ap (λ (x : Slipped). x.at.line) q)

before : (texts : List (List ℕ)) (l : PlanList) (s : Slipped) → add_lines texts l ≡ Err s → Before texts l s
unfolding add_lines
before [] l s e = absurd (cc)
before (text ∷ texts) l s e = go (add_line text l) refl (λ l'. before texts l' s)
  where
    go : (r : Result PlanList Slipped) → add_line text l ≡ r → ((l' : PlanList) → add_lines texts l' ≡ Err s → Before texts l' s) → Before (text ∷ texts) l s
    go (Ok l') q k =
        let b = k l' (sym (ap (λ r. r >>= add_lines texts) q) ∙ e) in
        record {
          count = suc b.count;
          read = b.read;
          adds = ap (λ r. r >>= add_lines (take b.count texts)) q ∙ b.adds;
          lines = omega (arith, b.lines, line_counts text l l' (Ok tt) q);
          list = b.list;
          line = b.line;
        }
    go (Err s') q k =
        let z : s' ≡ s = let y : Err s' ≡ Err s = sym (ap (λ r. r >>= add_lines texts) q) ∙ e in cc in
        let stops = line_stops text l s (q ∙ ap (λ (x : Slipped). Err x) z) in
        record { count = 0; read = l; adds = refl; lines = omega arith; list = stops.0; line = stops.1 }

pub read_before : (text : List ℕ) (s : Slipped) → length text ≤ 65536 → read_of text ≡ Err s → Before (lines_of text) no_lines s
read_before text s h e = before (lines_of text) no_lines s (sym (read_starts text h) ∙ e)
