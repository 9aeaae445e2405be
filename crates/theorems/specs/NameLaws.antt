-- Laws of names that pass the opening's check.
--
--   mark_bytes        the bytes that part labels
--   label-no-blank   a label byte is no blank
--   LabelBytes w     every byte of w is a label byte, as a type
--   good-count       there are as many as there are taxa
--   good-name        each is a name
--   name-found       a label is found in the place of the name that it reads as
use Rattle.std.specs.Prelude.{ℕ, zero, suc, ◌+◌, ◌≤◌, ◌<◌, ◌≡◌, refl, Bool, true, false, ◌&&◌, List, [], ◌∷◌, leb, eqb, length, get_or, if◌then◌else◌}
use Rattle.std.proofs.Common.{arith, ap₂, sym, ◌∙◌, subst, inl, inr, true≢false}
use Rattle.std.proofs.Math.Path.{ap}
use Rattle.std.proofs.Math.Bool.{not}
use Rattle.std.proofs.Math.Option.{some}
use borrow.Author.Tests.{eqb-true, eq-eqb, ne_eqb, leb-true, not-true}
use Rattle.trees.specs.Plain.{every, member, same_bytes, in_names}
use Rattle.trees.specs.Text.{is_blank, is_label_byte, is_quoted_byte, read_as, Kind, blank, label, mark, open_bracket, close_bracket, comma, colon, stray, kind}
use Rattle.trees.specs.Names.{taxon_from, taxon_of, is_name, different, good_names}
use Rattle.theorems.specs.ListLaws.{if-true, if-false, and_left, and_right, or_left, or_right, Mem, member-mem, member-not, not-member, every-at}

-- ---- label bytes

-- the bytes that part labels
abbrev pub mark_bytes : List ℕ
mark_bytes = 40 ∷ 41 ∷ 91 ∷ 93 ∷ 39 ∷ 58 ∷ 59 ∷ 44 ∷ []

colon-mark : Mem 58 mark_bytes
unfolding member
colon-mark = member-mem 58 mark_bytes refl

comma-mark : Mem 44 mark_bytes
unfolding member
comma-mark = member-mem 44 mark_bytes refl

-- what a byte is, from the tests of it
abbrev kind_by : Bool → Bool → Bool → Bool → Bool → Bool → Bool → Kind
kind_by a_blank opens closes parts leads a_label quotes =
    if a_blank then blank
    else if opens then mark open_bracket
    else if closes then mark close_bracket
    else if parts then mark comma
    else if leads then mark colon
    else if a_label then label
    else if quotes then label
    else mark stray

kind-by : (b : ℕ) → kind b ≡ kind_by (is_blank b) (eqb b 40) (eqb b 41) (eqb b 44) (eqb b 58) (is_label_byte b) (eqb b 39)
unfolding kind
kind-by b = refl

above-blanks : (b : ℕ) → 33 ≤ b → Mem b (32 ∷ 9 ∷ 13 ∷ 10 ∷ []) → ⊥
above-blanks b h (inr (inr (inr (inr x4)))) = elim x4 [ ]
above-blanks b h (inl e) = omega arith
above-blanks b h (inr (inl e)) = omega arith
above-blanks b h (inr (inr (inl e))) = omega arith
above-blanks b h (inr (inr (inr (inl e)))) = omega arith

module _ (b : ℕ) (h : is_label_byte b ≡ true) where
  label-above : 33 ≤ b
  unfolding is_label_byte
  label-above = leb-true 33 b (and_left (leb 33 b) (leb b 126 && not (member b mark_bytes)) h)

  label-no-mark : member b mark_bytes ≡ false
  unfolding is_label_byte
  label-no-mark = not-true (member b mark_bytes) (and_right (leb b 126) (not (member b mark_bytes)) (and_right (leb 33 b) (leb b 126 && not (member b mark_bytes)) h))

  -- no byte that is in the list of marks
  label-not : (c : ℕ) → Mem c mark_bytes → eqb b c ≡ false
  label-not c m = ne_eqb b c (λ e. not-member b mark_bytes label-no-mark (subst (λ (x : ℕ). Mem x mark_bytes) (sym e) m))

  pub label-no-blank : is_blank b ≡ false
  unfolding is_blank
  label-no-blank = member-not b (32 ∷ 9 ∷ 13 ∷ 10 ∷ []) (above-blanks b label-above)

  pub label-kind : kind b ≡ label
  label-kind = kind-by b ∙ simp (label-no-blank, label-not 40 (inl refl), label-not 41 (inr (inl refl)), label-not 44 comma-mark, label-not 58 colon-mark, h)

abbrev pub LabelBytes : List ℕ → Type 0
LabelBytes [] = Unit {0}
LabelBytes (b ∷ w) = (is_label_byte b ≡ true) × LabelBytes w

pub every-label : (w : List ℕ) → every is_label_byte w ≡ true → LabelBytes w
unfolding every
every-label [] e = tt
every-label (b ∷ w) e = (and_left (is_label_byte b) (every is_label_byte w) e, every-label w (and_right (is_label_byte b) (every is_label_byte w) e))

-- ---- one name

module _ (w : List ℕ) (h : is_name w ≡ true) where
  pub is_name-some : 1 ≤ length w
  unfolding is_name
  is_name-some = leb-true 1 (length w) (and_left (leb 1 (length w)) _ h)

  pub is_name-short : length w ≤ 32
  unfolding is_name
  is_name-short = leb-true (length w) 32 (and_left (leb (length w) 32) (every is_quoted_byte w) (and_right (leb 1 (length w)) _ h))

  pub is_name-bytes : every is_quoted_byte w ≡ true
  unfolding is_name
  is_name-bytes = and_right (leb (length w) 32) (every is_quoted_byte w) (and_right (leb 1 (length w)) _ h)

-- ---- equal bytes

pub same_self : (w : List ℕ) → same_bytes w w ≡ true
unfolding same_bytes
same_self [] = refl
same_self (b ∷ w) = ap₂ ◌&&◌ (eq-eqb b b refl) (same_self w)

pub same_true : (v w : List ℕ) → same_bytes v w ≡ true → v ≡ w
unfolding same_bytes
same_true [] [] e = refl
same_true [] (y ∷ w) e = absurd (true≢false (sym e))
same_true (x ∷ v) [] e = absurd (true≢false (sym e))
same_true (x ∷ v) (y ∷ w) e = ap₂ (λ b u. b ∷ u) (eqb-true x y (and_left (eqb x y) (same_bytes v w) e)) (same_true v w (and_right (eqb x y) (same_bytes v w) e))

-- a name that is in no place of the list is not the one in place i
in_names-at : (w : List ℕ) (vs : List (List ℕ)) (i : ℕ) → i < length vs → same_bytes w (get_or vs i []) ≡ true → in_names w vs ≡ true
unfolding in_names
in_names-at w [] i h e = absurd (omega arith)
in_names-at w (v ∷ vs) zero h e = or_left (same_bytes v w) (in_names w vs) (ap (λ u. same_bytes u w) (sym (same_true w v e)) ∙ same_self w)
in_names-at w (v ∷ vs) (suc i) h e = or_right (same_bytes v w) (in_names w vs) (in_names-at w vs i (omega arith) e)

-- ---- names in their places

get_d-mem : (ns : List (List ℕ)) (i : ℕ) → i < length ns → Mem (get_or ns i []) ns
get_d-mem [] i h = absurd (omega arith)
get_d-mem (v ∷ vs) zero h = inl refl
get_d-mem (v ∷ vs) (suc i) h = inr (get_d-mem vs i (omega arith))

pub test-fails : (b : Bool) → (b ≡ true → ⊥) → b ≡ false
test-fails true f = absurd (f refl)
test-fails false f = refl

found_from : (ns : List (List ℕ)) (k i : ℕ) → different ns ≡ true → i < length ns → taxon_from k ns (get_or ns i []) ≡ some (k + i)
unfolding taxon_from different
found_from [] k i d h = absurd (omega arith)
found_from (v ∷ vs) k zero d h = if-true (some k) (taxon_from (suc k) vs v) (same_self v) ∙ ap some (omega arith)
found_from (v ∷ vs) k (suc i) d h =
    if-false (some k) (taxon_from (suc k) vs (get_or vs i [])) (test-fails (same_bytes v (get_or vs i [])) (λ e. true≢false (sym (in_names-at v vs i (omega arith) e) ∙ not-true (in_names v vs) (and_left (not (in_names v vs)) (different vs) d))))
    ∙ found_from vs (suc k) i (and_right (not (in_names v vs)) (different vs) d) (omega arith) ∙ ap some (omega arith)

module _ (n : ℕ) (ns : List (List ℕ)) (h : good_names n ns ≡ true) where
  pub good-count : length ns ≡ n
  unfolding good_names
  good-count = eqb-true (length ns) n (and_left (eqb (length ns) n) _ h)

  pub good-name : (i : ℕ) → i < length ns → is_name (get_or ns i []) ≡ true
  unfolding good_names
  good-name i l = every-at is_name ns (and_left (every is_name ns) (different ns) (and_right (eqb (length ns) n) _ h)) (get_or ns i []) (get_d-mem ns i l)

  -- by any label that reads as it
  pub name-found : (i : ℕ) → i < length ns → (w : List ℕ) → read_as w ≡ get_or ns i [] → taxon_of ns w ≡ some i
  unfolding good_names taxon_of
  name-found i l w e =
      ap (taxon_from 0 ns) e ∙ found_from ns 0 i (and_right (every is_name ns) (different ns) (and_right (eqb (length ns) n) _ h)) l ∙ ap some (omega arith)
