-- What the release sheet is answered, of the call's own promise, and what its lines say. That it leaves every lent byte is what
-- `asking-changes-nothing` says of every question. Assumes nothing.
--
--   release-not-whole        1 exactly where the lent bytes are not whole; all else is of whole lent bytes
--   release-no-taxon         13 exactly where the taxon whose stand-ins are asked for is none of the collection's
--   release-no-room          4 exactly where it is, and the sheet is longer than the buffer
--   release-given            exactly where neither is so, the sheet stands at the front of the buffer
--   release-only             what is given is the sheet and nothing else
--   groups-of-the-tree       the groups on it are the splits that the tree which the call `majority` writes reads back as
--   stand-ins-behind         the stand-ins of a taxon are its last lines, one for each other taxon
--   stand-in-names           the group that is named for two taxa is in the majority, holds both, and no smaller majority group does
--   stand-in-none            none is named where no majority group holds both
use Rattle.std.specs.Prelude.{ℕ, ◌≤◌, ◌<◌, ◌≡◌, ◌↔◌, Bool, true, false, List, [], ◌∷◌, ◌++◌, map, ltb, eqb, length, take, if◌then◌else◌, Some}
use Rattle.std.proofs.Common.{arith, ◌∙◌, append_assoc}
use Rattle.std.proofs.Math.Path.{refl, sym, ap, ap₂}
use Rattle.std.proofs.Math.Logic.Iff.{trans as iff_trans}
use Rattle.std.proofs.Math.ListN.{drop}
use Rattle.std.proofs.Math.Seq.{take-append_seam}
use borrow.Author.Tests.{ltb-true, ltb-false, lt-ltb, le-ltb, eq-eqb, ne_eqb}
use Rattle.trees.specs.Plain.{bytes, Answer, refused, gives}
use Rattle.trees.specs.Text.{before_end}
use Rattle.trees.specs.Verdict.{judged}
use Rattle.trees.specs.Decimal.{digits_of}
use Rattle.trees.specs.Consensus as of
use Rattle.trees.specs.Written.{written}
use Rattle.trees.specs.Groups.{taxa_in, nearest, stand_ins}
use Rattle.trees.specs.Held.{Held}
use Rattle.trees.specs.Questions.{if_room, if_trees, majority_of}
use Rattle.theorems.specs.ListLaws.{Mem, if-false}
use Rattle.theorems.specs.GroupLaws.{Both, Smallest, nearest-exactly, none-exactly, groups-read-back}
use Rattle.answers.specs.declared.Taxon.{Taxon}
use Rattle.answers.specs.Answers.{refusal_number}
use Rattle.answers.specs.Filled.{length_given, front}
use Rattle.answers.specs.AnswerLaws.{gives≢refused}
use Rattle.layout.specs.Store.{held_at}
use Rattle.layout.specs.WholeStore.{whole_at}
use Rattle.store.specs.HeldWholeLaws.{held_whole}
use Rattle.store.specs.LentLaws.{not-whole}
use Rattle.putting.specs.Lines.{line_of, bytes_of}
use Rattle.sheet.specs.Sheet.{counts_line, majority_line, strict_line}
use Rattle.grouping.specs.GroupLines.{labels, group_line, group_lines, stand_in_line, stand_in_lines}
use Rattle.drawing.specs.DrawnLines.{drawn_lines}
use Rattle.release.specs.declared.Wanted.{Wanted}
use Rattle.release.specs.Release.{first_lines, split_lines, apart_lines, is_taxon, release_lines, release_of}
use Rattle.promises.specs.Calls.{majority, release, Reply, filled, fill, reply}
use Rattle.promises.specs.Steps.{Asked}
use Rattle.promises.specs.StepLaws.{asked-follows}
use Rattle.promises.specs.ReadBackCallLaws.{given_is}
use Rattle.promises.specs.SplitFileCallLaws.{filled-refusal, answered}

-- ---- one refusal after another

given-one : {x y : List ℕ} → ◌≡◌ {A = Answer (List ℕ)} (gives x) (gives y) → x ≡ y
given-one e = cc

module _ (ys : List ℕ) where
  -- whether there is such a taxon, and whether the room is too short
  abbrev chosen : Bool → Bool → Answer (List ℕ)
  chosen taxon short = if taxon then (if short then refused 4 else gives ys) else refused 13

  thirteen : (b c : Bool) → (chosen b c ≡ refused 13) ↔ (b ≡ false)
  thirteen true true = (λ e. absurd (let z : ◌≡◌ {A = ℕ} 4 13 = cc in omega arith), λ e. absurd (let z : ◌≡◌ {A = ℕ} 0 1 = cc in omega arith))
  thirteen true false = (λ e. absurd (gives≢refused ys 13 e), λ e. absurd (let z : ◌≡◌ {A = ℕ} 0 1 = cc in omega arith))
  thirteen false c = (λ e. refl, λ e. refl)

  four : (b c : Bool) → (chosen b c ≡ refused 4) ↔ ((b ≡ true) × (c ≡ true))
  four true true = (λ e. (refl, refl), λ e. refl)
  four true false = (λ e. absurd (gives≢refused ys 4 e), λ e. absurd (let z : ◌≡◌ {A = ℕ} 0 1 = (let f = e.1 in cc) in omega arith))
  four false c = (λ e. absurd (let z : ◌≡◌ {A = ℕ} 13 4 = cc in omega arith), λ e. absurd (let z : ◌≡◌ {A = ℕ} 0 1 = (let f = e.0 in cc) in omega arith))

  never-one : (b c : Bool) → chosen b c ≡ refused 1 → ⊥
  never-one true true e = let z : ◌≡◌ {A = ℕ} 4 1 = cc in omega arith
  never-one true false e = gives≢refused ys 1 e
  never-one false c e = let z : ◌≡◌ {A = ℕ} 13 1 = cc in omega arith

  given : (b c : Bool) → (chosen b c ≡ gives ys) ↔ ((b ≡ true) × (c ≡ false))
  given true true = (λ e. absurd (gives≢refused ys 4 (sym e)), λ e. absurd (let z : ◌≡◌ {A = ℕ} 0 1 = (let f = e.1 in cc) in omega arith))
  given true false = (λ e. (refl, refl), λ e. refl)
  given false c = (λ e. absurd (gives≢refused ys 13 (sym e)), λ e. absurd (let z : ◌≡◌ {A = ℕ} 0 1 = (let f = e.0 in cc) in omega arith))

  only : (b c : Bool) (v : List ℕ) → chosen b c ≡ gives v → v ≡ ys
  only true true v e = absurd (gives≢refused v 4 (sym e))
  only true false v e = sym (given-one e)
  only false c v e = absurd (gives≢refused v 13 (sym e))

-- ---- what is answered

module _ (s : List ℕ) (n : ℕ) (x : Wanted) (out : List ℕ) (a : Reply) (q : Asked s (release n x out) a) where
  abbrev sheet : List ℕ
  sheet = bytes_of (release_lines (held_at s) n x)

  abbrev taxon : Bool
  taxon = is_taxon (held_at s) x.apart

  abbrev short : Bool
  short = ltb (length out) (length sheet)

  module _ (w : whole_at s ≡ true) where
    release-by : release_of (held_at s) n x (length out) ≡ chosen sheet taxon short
    unfolding release_of if_room
    release-by = refl

    release-as : a ≡ fill (release_of (held_at s) n x (length out)) out
    unfolding reply
    release-as = asked-follows s w (release n x out) a q

    refused-exactly : (k : ℕ) → (a ≡ filled (refused k) out) ↔ (chosen sheet taxon short ≡ refused k)
    refused-exactly k = iff_trans (answered release-as) (iff_trans (filled-refusal (release_of (held_at s) n x (length out)) out k) (λ e. sym release-by ∙ e, λ e. release-by ∙ e))

    pub release-no-taxon : (a ≡ filled (refused 13) out) ↔ (taxon ≡ false)
    release-no-taxon = iff_trans (refused-exactly 13) (thirteen sheet taxon short)

    -- 4: "a lent buffer is too short for the whole answer"
    pub release-no-room : (a ≡ filled (refused 4) out) ↔ ((taxon ≡ true) × (length out < length sheet))
    release-no-room =
        iff_trans (refused-exactly 4)
        (iff_trans (four sheet taxon short)
        (λ e. (e.0, ltb-true (length out) (length sheet) e.1), λ e. (e.0, lt-ltb (length out) (length sheet) e.1)))

    -- any other sheet is given, at the front of the buffer
    pub release-given : (a ≡ filled (gives (length sheet)) (sheet ++ drop (length sheet) out)) ↔ ((taxon ≡ true) × (length sheet ≤ length out))
    unfolding fill length_given front
    release-given = (λ e. there (given-only e), λ e. release-as ∙ ap (λ y. fill y out) (release-by ∙ (given sheet taxon short).1 (e.0, le-ltb (length out) (length sheet) e.1)))
      where
        given-only : a ≡ filled (gives (length sheet)) (sheet ++ drop (length sheet) out) → chosen sheet taxon short ≡ gives sheet
        given-only e =
            let g = given_is (release_of (held_at s) n x (length out)) out (length sheet) (sheet ++ drop (length sheet) out) (sym e ∙ release-as) in
            sym release-by ∙ g.0 ∙ ap gives (take-append_seam sheet (drop (length sheet) out))

        there : chosen sheet taxon short ≡ gives sheet → (taxon ≡ true) × (length sheet ≤ length out)
        there e = let b = (given sheet taxon short).0 e in (b.0, ltb-false (length out) (length sheet) b.1)

    -- what is given is the sheet and nothing else
    pub release-only : (m : ℕ) (left : List ℕ) → a ≡ filled (gives m) left → take m left ≡ sheet
    release-only m left e =
        let g = given_is (release_of (held_at s) n x (length out)) out m left (sym e ∙ release-as) in
        only sheet taxon short (take m left) (sym release-by ∙ g.0)

  pub release-not-whole : (a ≡ filled (refused 1) out) ↔ (whole_at s ≡ false)
  release-not-whole = (λ e. go (whole_at s) refl e, λ e. not-whole-as e)
    where
      go : (b : Bool) → whole_at s ≡ b → a ≡ filled (refused 1) out → b ≡ false
      go true w e = absurd (never-one sheet taxon short ((refused-exactly w 1).0 e))
      go false w e = refl

      not-whole-as : whole_at s ≡ false → a ≡ filled (refused 1) out
      not-whole-as e = unfold Asked refusal_number length_given front in q.3 ∙ ap₂ filled (q.2.0 ∙ ap length_given (not-whole s (λ h. release_of h n x (length out)) e)) (q.2.1 ∙ ap (λ y. front y out) (not-whole s (λ h. release_of h n x (length out)) e))

-- ---- what its lines say

-- the tree that the call `majority` gives is the written one
majority-text : (h : Held) (room : ℕ) (t : List ℕ) → majority_of h room ≡ gives t → t ≡ written h.opening.names (of.majority h.trees)
unfolding majority_of if_trees if_room
majority-text h room t e = go (eqb (length h.trees) 0) (ltb room (length (written h.opening.names (of.majority h.trees)))) e
  where
    go : (b c : Bool) → (if b then refused 14 else (if c then refused 4 else gives (written h.opening.names (of.majority h.trees)))) ≡ gives t
        → t ≡ written h.opening.names (of.majority h.trees)
    go true c d = absurd (gives≢refused t 14 (sym d))
    go false true d = absurd (gives≢refused t 4 (sym d))
    go false false d = sym (given-one d)

module _ (s : List ℕ) (w : whole_at s ≡ true) where
  abbrev h : Held
  h = held_at s

  group_lines_lem : (out : List ℕ) (m : ℕ) (left : List ℕ) → Asked s (majority out) (filled (gives m) left)
      → (ms : List ℕ) → judged h.opening.names (before_end false (take m left)) ≡ gives ms → group_lines h ≡ map (group_line h) ms
  group_lines_lem out m left p ms j =
      let g = given_is (majority_of h (length out)) out m left majority-as in
      let t = majority-text h (length out) (take m left) g.0 in
      let r = ap (λ (v : List ℕ). judged h.opening.names (before_end false v)) t ∙ groups-read-back h (held_whole s w) in
      lines_are ∙ ap (map (group_line h)) (given-one (sym r ∙ j))
    where
      majority-as : filled (gives m) left ≡ fill (majority_of h (length out)) out
      majority-as = unfold reply in asked-follows s w (majority out) (filled (gives m) left) p

      lines_are : group_lines h ≡ map (group_line h) (of.majority h.trees)
      lines_are = unfold group_lines in refl

  module _ (n : ℕ) (x : Wanted) (buf : List ℕ) (k : ℕ) (made : List ℕ) (q : Asked s (release n x buf) (filled (gives k) made)) (full : x.newick ≡ false) where
    sheet-is : take k made ≡ bytes_of (first_lines h n ++ (split_lines h x.splits ++ apart_lines h x.apart))
    unfolding release_lines
    sheet-is = release-only s n x buf (filled (gives k) made) q w k made refl ∙ ap bytes_of (if-false _ _ full)

    -- "the groups are those of the majority tree written": behind the counts stands a line for each
    pub groups-of-the-tree : (out : List ℕ) (m : ℕ) (left : List ℕ) → Asked s (majority out) (filled (gives m) left)
        → (ms : List ℕ) → judged h.opening.names (before_end false (take m left)) ≡ gives ms
        → (rest : List (List ℕ)) × (take k made ≡ bytes_of (counts_line h n ∷ (map (group_line h) ms ++ rest)))
    groups-of-the-tree out m left p ms j =
        let two = majority_line h ∷ strict_line h ∷ drawn_lines h in
        let more = split_lines h x.splits ++ apart_lines h x.apart in
        (two ++ more, sheet-is ∙ ap bytes_of (first-is two more refl ∙ ap (λ (ls : List (List ℕ)). counts_line h n ∷ ls) (append_assoc (group_lines h) two more ∙ ap (λ (ls : List (List ℕ)). ls ++ (two ++ more)) (group_lines_lem out m left p ms j))))
      where
        first-is : (two more : List (List ℕ)) → two ≡ majority_line h ∷ strict_line h ∷ drawn_lines h → first_lines h n ++ more ≡ counts_line h n ∷ ((group_lines h ++ two) ++ more)
        first-is two more e = unfold first_lines in rw e

    -- "for one strain its stand-ins, every other strain"
    pub stand-ins-behind : (i : Taxon) → x.apart ≡ Some i
        → (first : List (List ℕ)) × (take k made ≡ bytes_of (first ++ map (stand_in_line h i.0) (stand_ins h.opening.numbers.taxa i.0 (of.majority h.trees))))
    stand-ins-behind i e =
        (first_lines h n ++ split_lines h x.splits, sheet-is ∙ ap bytes_of (ap (λ (ls : List (List ℕ)). first_lines h n ++ (split_lines h x.splits ++ ls)) lines_are ∙ sym (append_assoc (first_lines h n) (split_lines h x.splits) _)))
      where
        lines_are : apart_lines h x.apart ≡ map (stand_in_line h i.0) (stand_ins h.opening.numbers.taxa i.0 (of.majority h.trees))
        lines_are = unfold apart_lines stand_in_lines in rw e

  module _ (i j : ℕ) where
    -- "the smallest majority group that holds both and that group's count"
    pub stand-in-names : (m : ℕ) → Smallest h.opening.numbers.taxa i j (of.majority h.trees) m
        → stand_in_line h i j ≡ line_of (bytes "apart" ∷ (labels h.opening.names (j ∷ []) ++ (digits_of (of.count h.trees m) ∷ labels h.opening.names (taxa_in h.opening.numbers.taxa m))))
    unfolding stand_in_line
    stand-in-names m k =
        let e = (nearest-exactly h.opening.numbers.taxa i j (of.majority h.trees) m).1 k in
        rw (e.0, ne_eqb m 0 e.1)

    -- "those that share no majority group with it"
    pub stand-in-none : ((m : ℕ) → Mem m (of.majority h.trees) → Both i j m → ⊥)
        → stand_in_line h i j ≡ line_of (bytes "apart" ∷ (labels h.opening.names (j ∷ []) ++ (bytes "none" ∷ [])))
    unfolding stand_in_line
    stand-in-none k =
        let e = (none-exactly h.opening.numbers.taxa i j (of.majority h.trees)).1 k in
        rw (eq-eqb (nearest h.opening.numbers.taxa i j (of.majority h.trees)) 0 e)
