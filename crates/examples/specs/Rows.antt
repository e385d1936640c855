-- The words that the rows of the table are written in.
use Rattle.std.specs.Prelude.{ℕ, zero, suc, ◌*◌, ◌-◌, List, [], ◌∷◌, ◌++◌, map, length, replicate, Some, None}
use Rattle.replies.specs.declared.reply.Reply.{Reply}
use Rattle.replies.specs.Replies.{reply}
use Rattle.bin_section.specs.declared.width_height_depth.WidthHeightDepth.{WidthHeightDepth}
use Rattle.bin_section.specs.declared.section.BinSection.{BinSection}
use Rattle.bin_section.specs.Sides.{sides}
use Rattle.bin_section.specs.Section.{section}
use Rattle.words.specs.Words.{joined}
use Rattle.sections.specs.Sections.{all_words}
use Rattle.target_bin.specs.Store.{store_of}
use Rattle.placement.specs.Placements.{placement_width}
use Rattle.target_bin.specs.Outcome.{outcome, with_common}
use Rattle.rectangle_pack.specs.Pack.{pack_outcome}
use Rattle.examples.specs.Shown.{LentTables, fresh_shown}
use Rattle.examples.specs.Job.{Job, tries, returns, joins, packs, replies, audits, Answer, of_try, of_return, of_join, of_pack, of_reply, of_audit}

infix 80 ◌by◌by◌
infix 80 ◌detail◌
infix 75 ◌free◌
infix 74 ◌past◌
infix 70 split◌ties◌volumes◌appended◌
infix 70 returned◌leaving◌
infix 70 returned◌sharing◌leaving◌
infix 70 joined◌leaving◌
infix 70 joined◌sharing◌leaving◌
infix 70 packed◌placements◌leaving◌
infix 70 audited◌shown◌sum◌
infix 70 audited◌sharing◌shown◌sum◌
infix 68 ◌gives◌
-- a row: a job, and what it gives
pub record Example : Type 0 where
  pub job : Job
  pub answer : Answer

abbrev pub ◌gives◌ : Job → Answer → Example
j gives o = record { job = j; answer = o }

-- ---- what jobs are about

-- "4x5x6"
abbrev pub ◌by◌by◌ : ℕ → ℕ → ℕ → WidthHeightDepth
w by h by d = sides w h d

-- "(0,4,0;10,6,1)"
abbrev pub box : ℕ → ℕ → ℕ → ℕ → ℕ → ℕ → BinSection
box x y z w h d = section x y z (w by h by d)

-- "7, detail 1"
abbrev pub ◌detail◌ : ℕ → ℕ → Reply
n detail d = reply n d

pub record Chamber : Type 0 where
  pub id : ℕ
  pub whd : WidthHeightDepth

abbrev pub chamber : ℕ → WidthHeightDepth → Chamber
chamber id whd = record { id = id; whd = whd }

-- a chamber with its free sections
pub record WithFree : Type 0 where
  pub chamber : Chamber
  pub sections : List BinSection

abbrev pub ◌free◌ : Chamber → List BinSection → WithFree
c free sections = record { chamber = c; sections = sections }

-- "Chamber record, 5 words: id, width, height, depth, free count"
abbrev pub chamber_words : Chamber → ℕ → List ℕ
chamber_words c count = c.id ∷ c.whd.width ∷ c.whd.height ∷ c.whd.depth ∷ count ∷ []

-- the tables of such chambers
abbrev pub tables_of : List WithFree → LentTables
tables_of cs =
    record {
      chambers = joined (λ (c : WithFree). chamber_words c.chamber (length c.sections)) cs;
      store = store_of (map (λ (c : WithFree). c.sections) cs);
    }

-- "fresh 10x10x1". The tables are lent with other words in them.
unfoldable pub fresh : List Chamber → LentTables
unfolding fresh_shown
fresh cs =
    fresh_shown (record { chambers = joined (λ (c : Chamber). chamber_words c 77) cs; store = replicate (length cs * 768) 9 })

-- "Rectangle record, 5 words: id, group (0 for none), width, height, depth"
abbrev pub coil : ℕ → ℕ → WidthHeightDepth → List ℕ
coil id group whd = id ∷ group ∷ whd.width ∷ whd.height ∷ whd.depth ∷ []

abbrev pub ungrouped : ℕ
ungrouped = 0

-- n ungrouped coils of one cell each, with ids 1 to n
unfoldable pub coils : ℕ → List (List ℕ)
coils zero = []
coils (suc n) = coils n ++ (coil (suc n) ungrouped (1 by 1 by 1) ∷ [])

-- "Placement record, 5 words, at the rectangle's index: 1 if placed else 0, chamber id, x, y, z. An unplaced record is five zeros."
abbrev pub goes : ℕ → ℕ → ℕ → ℕ → List ℕ
goes id x y z = 1 ∷ id ∷ x ∷ y ∷ z ∷ []

abbrev pub waits : List ℕ
waits = 0 ∷ 0 ∷ 0 ∷ 0 ∷ 0 ∷ []

-- the words of all records, and a placement table for so many coils, lent with other words in it
abbrev pub all_of : List (List ℕ) → List ℕ
all_of = joined (λ (words : List ℕ). words)

abbrev pub lent_placements : List (List ℕ) → List ℕ
lent_placements coils = replicate (length coils * placement_width) 9

-- ---- a try of sides in a section

abbrev pub try : WidthHeightDepth → BinSection → Job
try whd s = tries (record { whd = whd }) s

abbrev pub split◌ties◌volumes◌appended◌ : ℕ → ℕ → List ℕ → List BinSection → Answer
split s ties t volumes vs appended bs = of_try (record { number = 0; split = s; ties = t; volumes = vs; appended = bs })

-- "a refused try returns .. zero sections": their volumes, and none to append
abbrev pub refused_with : ℕ → Answer
refused_with n = of_try (record { number = n; split = 0; ties = 0; volumes = 0 ∷ 0 ∷ 0 ∷ []; appended = [] })

-- ---- a return of a box to the chamber that has the id, and both tables afterwards

abbrev pub return : LentTables → ℕ → BinSection → Job
return = returns

abbrev pub returned◌leaving◌ : Reply → List WithFree → Answer
returned r leaving cs = of_return (with_common None (outcome r (tables_of cs).chambers (tables_of cs).store))

-- with the common box that is handed on
abbrev pub returned◌sharing◌leaving◌ : Reply → BinSection → List WithFree → Answer
returned r sharing b leaving cs = of_return (with_common (Some b) (outcome r (tables_of cs).chambers (tables_of cs).store))

-- ---- a join in the chamber that has the id, and both tables afterwards

-- a chamber with its free sections, and the word that stands everywhere past its count
pub record WithPast : Type 0 where
  pub chamber : WithFree
  pub word : ℕ

abbrev pub ◌past◌ : WithFree → ℕ → WithPast
c past word = record { chamber = c; word = word }

abbrev pub past_tables : List WithPast → LentTables
past_tables cs =
    record {
      chambers = joined (λ (c : WithPast). chamber_words c.chamber.chamber (length c.chamber.sections)) cs;
      store = joined (λ (c : WithPast). all_words c.chamber.sections ++ replicate (768 - length c.chamber.sections * 6) c.word) cs;
    }

abbrev pub join : List WithPast → ℕ → Job
join cs = joins (past_tables cs)

abbrev pub joined◌leaving◌ : Reply → List WithPast → Answer
joined r leaving cs = of_join (with_common None (outcome r (past_tables cs).chambers (past_tables cs).store))

-- with the common box that is handed on
abbrev pub joined◌sharing◌leaving◌ : Reply → BinSection → List WithPast → Answer
joined r sharing b leaving cs = of_join (with_common (Some b) (outcome r (past_tables cs).chambers (past_tables cs).store))

-- ---- a pack of coils, and all tables afterwards

abbrev pub pack : LentTables → List (List ℕ) → Job
pack tables coils = packs tables (all_of coils) (lent_placements coils)

abbrev pub packed◌placements◌leaving◌ : Reply → List (List ℕ) → List WithFree → Answer
packed r placements ps leaving cs = of_pack (pack_outcome r (tables_of cs).chambers (tables_of cs).store (all_of ps))

-- where the reply and its detail alone are said
abbrev pub pack_reply : LentTables → List (List ℕ) → Job
pack_reply tables coils = replies tables (all_of coils) (lent_placements coils)

abbrev pub replied : Reply → Answer
replied = of_reply

-- ---- an audit of placed and of free boxes, the box that it shows, and what all their volumes sum to

abbrev pub audit : WidthHeightDepth → List BinSection → List BinSection → Job
audit whd placed open' = audits whd (all_words placed) (all_words open')

abbrev pub audited◌shown◌sum◌ : Reply → List BinSection → ℕ → Answer
audited r shown bs sum n = of_audit (record { reply = r; common = None; shown = all_words bs; sum = n })

-- with the common box that is handed on
abbrev pub audited◌sharing◌shown◌sum◌ : Reply → BinSection → List BinSection → ℕ → Answer
audited r sharing b shown bs sum n = of_audit (record { reply = r; common = Some b; shown = all_words bs; sum = n })
