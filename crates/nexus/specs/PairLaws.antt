-- Laws of the first pair of a TRANSLATE list: the token and the label before its first comma. Assumes nothing.
-- Bytes: 39 is the apostrophe, 44 `,`, 91 `[`, and 32 a blank.
--
--   first_part_lem, behind-first, later_first, blank_part, name-part, later-pair     tokens, blanks and a label at the front of the first part and of the whole
--   pair_by k n b       the pair of k and n, where k is a token, n is a label and the test b passes
--   name_from s         what stands behind the first token of s, and blanks
--   behind_pair s       what stands behind a label there, and blanks
--   pair-part          the pair that the first part is, told by the whole
--   pairs-step         a list of pairs is its first part and the later ones
--   no_key, no-pair, no_name, stray, pair_step     a list whose first part lacks a token, a label, has more than these, is a pair
--   NoComma l          some byte, and no comma, stands at the front of l
--   other-front, other-stray     so it is at a place where another byte stands, and then a part has more
--   pair_of c k v       the bytes of c at the places k and v
--   list-none, list-stray, list-last, list-more     a list whose first part is no pair, is the last one, or has others behind it, told by places
use Rattle.std.specs.Prelude.{ℕ, ◌+◌, ◌≤◌, ◌<◌, ◌≡◌, refl, ◌⊎◌, Bool, true, ◌&&◌, eqb, length, get_or, if◌then◌else◌}
use Rattle.std.proofs.Common.{arith, sym, ◌∙◌, ⊎_elim, ne_eqb, le-leb}
use Rattle.std.proofs.Math.Path.{ap, ap₂}
use Rattle.std.proofs.Math.Bool.{false}
use mathlib.Core.List.{List, [], ◌∷◌}
use Rattle.std.proofs.Math.Option.{Option, none, some}
use Rattle.std.proofs.Math.Dec.{leb}
use Rattle.trees.specs.Plain.{every}
use Rattle.trees.specs.Text.{is_blank, is_label_byte, turned, parts, is_label}
use Rattle.trees.specs.Nexus.{run_of, behind_run, begins, Pair}
use Rattle.trees.specs.NexusReading.{first_token, behind_first, label_run, behind_label, read_name, with_key, read_pair, with_pair, read_pairs}
use Rattle.theorems.specs.ListLaws.{if-true, if-false, and-true}
use Rattle.theorems.specs.RunOfLaws.{every-behind}
use Rattle.nexus.specs.declared.tokens.Token.{Token}
use Rattle.nexus.specs.Places.{part, plain_at, Skipped, TokenAt}
use Rattle.nexus.specs.Commands.{LabelAt}
use Rattle.nexus.specs.PartLaws.{part_none, part-some}
use Rattle.nexus.specs.PlaceLaws.{plain-none, plain_byte, plain-as}
use Rattle.nexus.specs.PartsLaws.{first_part, later_parts, parts-split, run-part, behind-part, later-part, label-part, behind-label, later-label}

-- ---- tokens and labels of a part, between commas: byte 44

comma-blank : is_blank 44 ≡ false
unfolding is_blank
comma-blank = refl

quote-blank : is_blank 39 ≡ false
unfolding is_blank
quote-blank = refl

comma-label : is_label_byte 44 ≡ false
unfolding is_label_byte
comma-label = refl

quote-label : is_label_byte 39 ≡ false
unfolding is_label_byte
quote-label = refl

-- a pair is k and n, where both are there and the test b passes
abbrev pair_by : List ℕ → List ℕ → Bool → Option Pair
pair_by k n b = if leb 1 (length k) then with_key k (if is_label n && b then some n else none) else none

-- from a pair's name on
abbrev name_from : List ℕ → List ℕ
name_from s = behind_run is_blank (behind_first s)

abbrev behind_pair : List ℕ → List ℕ
behind_pair s = behind_run is_blank (behind_label (name_from s))

pair-by : (s : List ℕ) → read_pair s ≡ pair_by (first_token s) (label_run (name_from s)) (every is_blank (behind_label (name_from s)))
unfolding read_pair read_name
pair-by s = refl

module _ (s : List ℕ) where
  first_part_lem : first_token (first_part 44 false s) ≡ first_token s
  unfolding first_token
  first_part_lem =
      ap (run_of is_label_byte) (behind-part 44 is_blank comma-blank quote-blank s)
      ∙ run-part 44 is_label_byte comma-label quote-label (behind_run is_blank s)

  behind-first : behind_first (first_part 44 false s) ≡ first_part 44 false (behind_first s)
  unfolding behind_first
  behind-first =
      ap (behind_run is_label_byte) (behind-part 44 is_blank comma-blank quote-blank s)
      ∙ behind-part 44 is_label_byte comma-label quote-label (behind_run is_blank s)

  later_first : later_parts 44 false (behind_first s) ≡ later_parts 44 false s
  unfolding behind_first
  later_first = later-part 44 is_label_byte comma-label quote-label (behind_run is_blank s) ∙ later-part 44 is_blank comma-blank quote-blank s

  blank_part : every is_blank (first_part 44 false s) ≡ every is_blank (first_part 44 false (behind_run is_blank s))
  blank_part = every-behind is_blank (first_part 44 false s) ∙ ap (every is_blank) (behind-part 44 is_blank comma-blank quote-blank s)

  name-part : name_from (first_part 44 false s) ≡ first_part 44 false (name_from s)
  name-part = ap (behind_run is_blank) behind-first ∙ behind-part 44 is_blank comma-blank quote-blank (behind_first s)

  later-pair : later_parts 44 false (behind_pair s) ≡ later_parts 44 false s
  later-pair =
      later-part 44 is_blank comma-blank quote-blank (behind_label (name_from s))
      ∙ later-label 44 refl refl comma-label quote-label (name_from s)
      ∙ later-part 44 is_blank comma-blank quote-blank (behind_first s)
      ∙ later_first

if_none : {A : Type 0} (t : Bool) → ◌≡◌ {A = Option A} (if t then none else none) none
if_none true = refl
if_none false = refl

module _ (s : List ℕ) where
  pair-part : read_pair (first_part 44 false s) ≡ pair_by (first_token s) (label_run (name_from s)) (every is_blank (first_part 44 false (behind_pair s)))
  pair-part =
      pair-by (first_part 44 false s)
      ∙ rw (
        name-part s,
        first_part_lem s,
        label-part 44 refl refl comma-label quote-label (name_from s),
        behind-label 44 refl refl comma-label quote-label (name_from s),
        blank_part (behind_label (name_from s)),
      )

  pub pairs-step : read_pairs (parts 44 false s) ≡ with_pair (read_pair (first_part 44 false s)) (read_pairs (later_parts 44 false s))
  unfolding read_pairs
  pairs-step = ap read_pairs (parts-split 44 false s)

  none-step : read_pair (first_part 44 false s) ≡ none → read_pairs (parts 44 false s) ≡ none
  unfolding with_pair
  none-step e = pairs-step ∙ ap (λ (t : Option Pair). with_pair t (read_pairs (later_parts 44 false s))) e

  no_key : first_token s ≡ [] → read_pairs (parts 44 false s) ≡ none
  no_key e = none-step (pair-part ∙ ap (λ (k : List ℕ). pair_by k (label_run (name_from s)) (every is_blank (first_part 44 false (behind_pair s)))) e)

  -- the name is no label, or more than it stands there
  no-pair : (is_label (label_run (name_from s)) && every is_blank (first_part 44 false (behind_pair s))) ≡ false → read_pairs (parts 44 false s) ≡ none
  unfolding with_key
  no-pair e =
      let k = first_token s in
      none-step
      (pair-part
      ∙ ap (λ (t : Bool). if leb 1 (length k) then with_key k (if t then some (label_run (name_from s)) else none) else none) e
      ∙ if_none (leb 1 (length k)))

  no_name : is_label (label_run (name_from s)) ≡ false → read_pairs (parts 44 false s) ≡ none
  no_name e = no-pair (ap (λ (t : Bool). t && every is_blank (first_part 44 false (behind_pair s))) e)

  stray : every is_blank (first_part 44 false (behind_pair s)) ≡ false → read_pairs (parts 44 false s) ≡ none
  stray e = no-pair (ap (λ (t : Bool). is_label (label_run (name_from s)) && t) e ∙ and_no (is_label (label_run (name_from s))))
    where
      and_no : (t : Bool) → (t && false) ≡ false
      and_no true = refl
      and_no false = refl

  pair_step : 1 ≤ length (first_token s) → is_label (label_run (name_from s)) ≡ true → first_part 44 false (behind_pair s) ≡ []
      → read_pairs (parts 44 false s) ≡ with_pair (some (first_token s, label_run (name_from s))) (read_pairs (later_parts 44 false (behind_pair s)))
  unfolding every with_key
  pair_step h l e =
      let two = pair-part ∙ if-true _ _ (le-leb _ _ h) ∙ ap (with_key (first_token s)) (if-true _ _ (and-true l (ap (every is_blank) e))) in
      pairs-step ∙ ap₂ (λ (t : Option Pair) (r : List (List ℕ)). with_pair t (read_pairs r)) two (sym (later-pair s))

-- ---- the same, told by places

-- some byte, and no comma, stands at the front
abbrev NoComma : List ℕ → Type 0
NoComma l = (b : ℕ) × (r : List ℕ) × (l ≡ b ∷ r) × (eqb b 44 ≡ false)

other-front : (s : List ℕ) (i : ℕ) → i < length s → (get_or s i 0 ≡ 44 → ⊥) → NoComma (plain_at s i)
other-front s i h n = plain-as NoComma s i h (91, [], refl, refl) (λ t. (32, t, refl, refl)) (λ t. (_, t, refl, ne_eqb _ _ n))

other-stray : (l : List ℕ) → NoComma l → begins is_blank l ≡ false → every is_blank (first_part 44 false l) ≡ false
unfolding first_part every begins
other-stray l x h =
    let r = first_part 44 (turned false x.0) x.1 in
    ap (λ (k : List ℕ). every is_blank (first_part 44 false k)) x.2
    ∙ ap (every is_blank) (if-false [] (x.0 ∷ r) x.3)
    ∙ ap (λ (t : Bool). t && every is_blank r) (sym (ap (begins is_blank) x.2) ∙ h)

-- the bytes at the places k and v
abbrev pub pair_of : List ℕ → Token → Token → Pair
pair_of c k v = (part k.from k.end c, part v.from v.end c)

module _ (c : List ℕ) (at : ℕ) (k v : Token) (tk : TokenAt c at k) (tv : LabelAt c k.end v) where
  name-from : name_from (plain_at c at) ≡ plain_at c v.from
  name-from = ap (behind_run is_blank) tk.behind ∙ tv.blanks

  pub list-none : (k.from ≡ k.end) ⊎ (v.from ≡ v.end) → read_pairs (parts 44 false (plain_at c at)) ≡ none
  list-none h =
      ⊎_elim
      (λ q. no_key (plain_at c at) (tk.token ∙ part_none c _ _ q))
      (λ q. no_name (plain_at c at) (ap (λ (l : List ℕ). is_label (label_run l)) name-from ∙ tv.none q))
      h

  module _ (two : (k.from ≡ k.end → ⊥) × (v.from ≡ v.end → ⊥)) (e : ℕ) (sk : Skipped c v.end e) where
    behind-pair : behind_pair (plain_at c at) ≡ plain_at c e
    behind-pair = ap (λ (l : List ℕ). behind_run is_blank (behind_label l)) name-from ∙ ap (behind_run is_blank) (tv.some two.1).behind ∙ sk.plain

    pub list-stray : e < length c → (get_or c e 0 ≡ 44 → ⊥) → read_pairs (parts 44 false (plain_at c at)) ≡ none
    list-stray h n =
        stray (plain_at c at)
        (ap (λ (l : List ℕ). every is_blank (first_part 44 false l)) behind-pair ∙ other-stray (plain_at c e) (other-front c e h n) sk.stop)

    list_read : first_part 44 false (plain_at c e) ≡ []
        → read_pairs (parts 44 false (plain_at c at)) ≡ with_pair (some (pair_of c k v)) (read_pairs (later_parts 44 false (plain_at c e)))
    list_read q =
        let l = tv.some two.1 in
        let n : label_run (name_from (plain_at c at)) ≡ part v.from v.end c = ap label_run name-from ∙ l.run in
        let hk : 1 ≤ length (first_token (plain_at c at)) = rw tk.token (part-some c _ _ tk.order two.0 tk.within) in
        rw (tk.token, n, behind-pair) at (pair_step (plain_at c at) hk (ap is_label n ∙ l.label) (ap (first_part 44 false) behind-pair ∙ q))

    pub list-last : e ≡ length c → read_pairs (parts 44 false (plain_at c at)) ≡ with_pair (some (pair_of c k v)) (some [])
    unfolding first_part later_parts read_pairs
    list-last q =
        let z = plain-none c e (omega arith) in
        list_read (ap (first_part 44 false) z)
        ∙ ap (λ (l : List ℕ). with_pair (some (pair_of c k v)) (read_pairs (later_parts 44 false l))) z

    pub list-more : e < length c → get_or c e 0 ≡ 44
        → read_pairs (parts 44 false (plain_at c at))
        ≡ with_pair (some (pair_of c k v)) (read_pairs (parts 44 false (plain_at c (e + 1))))
    unfolding first_part later_parts
    list-more h q =
        let z = plain_byte c e h (λ x. omega arith) (λ x. omega arith) ∙ ap (λ (b : ℕ). b ∷ plain_at c (e + 1)) q in
        list_read (ap (first_part 44 false) z)
        ∙ ap (λ (l : List ℕ). with_pair (some (pair_of c k v)) (read_pairs (later_parts 44 false l))) z
