-- "From fresh chambers, after any packs and returns, refused ones included, with tables untouched in between and each returned box
-- then placed in that chamber", and with K5 "the allowed steps become packs, returns and joins": a run of jobs; and what the audit then says
-- of a chamber.
use Rattle.std.specs.Prelude.{ℕ, ◌+◌, ◌*◌, ◌≤◌, ◌<◌, ◌≡◌, List, [], length, take}
use Rattle.bin_section.specs.declared.section.BinSection.{BinSection}
use Rattle.replies.specs.Replies.{reply}
use Rattle.sections.specs.Sections.{all_words}
use Rattle.target_bin.specs.Chambers.{chamber_at, chamber_count}
use Rattle.target_bin.specs.Store.{part_at}
use Rattle.target_bin.specs.Fresh.{fresh_of}
use Rattle.target_bin.specs.Return.{return_of}
use Rattle.joins.specs.Join.{join_of}
use Rattle.rectangle_pack.specs.Pack.{pack_of}
use Rattle.audit.specs.Audit.{Audited, audited, audit_of}
use Rattle.custody.specs.Ledger.{Ledger, nothing, after_pack, In, after_return}

-- the two tables as they lie between two jobs, and what an onlooker has written down
pub record Hall : Type 0 where
  pub chambers : List ℕ
  pub store : List ℕ
  pub ledger : Ledger

abbrev pub hall_of : List ℕ → List ℕ → Ledger → Hall
hall_of chambers store ledger = record { chambers = chambers; store = store; ledger = ledger }

-- what fresh, a pack, a return and a join leave: each job's own outcome, and the ledger by its reply and records. The next job is lent the tables
-- as they lie: "with tables untouched in between".
abbrev pub fresh_hall : List ℕ → List ℕ → Hall
fresh_hall chambers store = let o = fresh_of chambers store in hall_of o.chambers o.store nothing

abbrev pub packed : Hall → List ℕ → List ℕ → Hall
packed hall rects placements =
    let o = pack_of hall.chambers hall.store rects placements in
    hall_of o.chambers o.store (after_pack o.reply rects o.placements hall.ledger)

abbrev pub taken_back : Hall → ℕ → BinSection → Hall
taken_back hall id box =
    let o = return_of hall.chambers hall.store id box in
    hall_of o.chambers o.store (after_return o.reply id box hall.ledger)

-- a join places nothing and takes nothing back
abbrev pub joined_up : Hall → ℕ → Hall
joined_up hall id = let o = join_of hall.chambers hall.store id in hall_of o.chambers o.store hall.ledger

pub data Run : Hall → Type 0 where
  -- "From fresh chambers": any tables on which fresh answers 0
  fresh : (chambers store : List ℕ) → (fresh_of chambers store).reply.number ≡ 0 → Run (fresh_hall chambers store)
  -- "after any packs": any rectangles, any lent placement table, any answer
  packs : {hall : Hall} → Run hall → (rects placements : List ℕ) → Run (packed hall rects placements)
  -- "and returns, refused ones included": any id, any box, any answer; but where it is taken back, "each returned box then placed in that
  -- chamber"
  returns :
      {hall : Hall} → Run hall
      → (id : ℕ) (box : BinSection)
      → ((return_of hall.chambers hall.store id box).reply.number ≡ 0 → In box (hall.ledger id))
      → Run (taken_back hall id box)
  -- "packs, returns and joins": any id, any answer
  joins : {hall : Hall} → Run hall → (id : ℕ) → Run (joined_up hall id)

-- the chamber table that the run began with
unfoldable pub begun_with : {hall : Hall} → Run hall → List ℕ
begun_with (fresh chambers store done) = chambers
begun_with (packs before rects placements) = begun_with before
begun_with (returns before id box there) = begun_with before
begun_with (joins before id) = begun_with before

-- two tables have the same chambers: as many, and each with its id and its sides
pub record SameChambers (a b : List ℕ) : Type 0 where
  pub many : chamber_count b ≡ chamber_count a
  pub ids : (k : ℕ) → k < chamber_count a → (chamber_at b k).id ≡ (chamber_at a k).id
  pub sides : (k : ℕ) → k < chamber_count a → (chamber_at b k).whd ≡ (chamber_at a k).whd

-- "every box placed there and not yet taken back", of the chamber at an index
abbrev pub placed_at : Hall → ℕ → List BinSection
placed_at hall k = hall.ledger (chamber_at hall.chambers k).id

-- how many free sections it has
abbrev pub free_count : Hall → ℕ → ℕ
free_count hall k = (chamber_at hall.chambers k).count

-- the audit of the chamber at an index: its sides, the words of the boxes placed there, and the words of its free sections as they lie
-- in the store
unfoldable pub audit_at : Hall → ℕ → Audited
audit_at hall k =
    audit_of (chamber_at hall.chambers k).whd (all_words (placed_at hall k)) (take (free_count hall k * 6) (part_at hall.store k))

-- "it accepts each chamber's free sections with every box placed there and not yet taken back, up to 1,024 boxes". That every run ends so
-- is `custody` (proofs/Custody.antt); that the chambers are those it began with is `chambers_stay` there.
pub record AuditAccepts (hall : Hall) : Type 0 where
  pub at :
      (k : ℕ)
      → k < chamber_count hall.chambers
      → length (placed_at hall k) + free_count hall k ≤ 1024
      → audit_at hall k ≡ audited (reply 0 0) []
