-- Laws of the commands of a NEXUS file: each is found exactly where it stands. Assumes nothing.
--
--   ends-sound, ends-complete, ends-not     the end of another block
--   PairsOk rs ps     the pairs ps, if they are any, are what rs are
--   pairs-sound, pairs-complete     the pairs of a TRANSLATE list
--   LineOk c t        the text t, if it is one, is that of the tree's line c
--   line-sound, line-complete       a tree's line
--   end-sound, end-complete         the end of the TREES block
use Rattle.std.specs.Prelude.{ℕ, ◌≤◌, ◌≡◌, Bool, true, false, ◌&&◌, not, List, [], ◌∷◌, ◌++◌, eqb, length}
use Rattle.std.proofs.Common.{arith, ap₂, sym, ◌∙◌, subst, ⊎_elim, true≢false, append_assoc, append-nil, length-append, eqb-true}
use Rattle.std.proofs.Math.Path.{refl, ap}
use Rattle.std.proofs.Math.Option.{Option, none, some}
use Rattle.std.proofs.lemmas.Bool.{not-true}
use Rattle.trees.specs.Plain.{every, member, bytes}
use Rattle.trees.specs.Text.{is_blank, is_label_byte}
use Rattle.trees.specs.Nexus.{run_of, behind_run, begins, ends, is_word, Pair, EndsOther, ends-other, IsPairs, no-pair, a_pair, is_name_byte, IsLine, is-line, IsEnd, is-end}
use Rattle.trees.specs.NexusReading.{first_token, behind_first, read_pair, last_end, ends_after, ends_other, with_pair, read_pairs, text_behind, name_and_text, read_line, is_end}
use Rattle.theorems.specs.ListLaws.{if-true, and_left, and_right, and-true, or_cases, or_left, or_right, by-test}
use Rattle.theorems.specs.NameLaws.{label-no-blank, test-fails}
use Rattle.theorems.specs.RunOfLaws.{run_join, run-every, run-of, behind-of, run-begins, begins-of, begins-apart, begins-other}
use Rattle.theorems.specs.TokenLaws.{blank-no-label, word_some, word-label, first-stands, first_found}
use Rattle.theorems.specs.PairLaws.{PairOk, pair-sound, pair-complete}

-- ---- the end of another block

ends_last : (a : List ℕ) (b : ℕ) → ends is_label_byte (a ++ b ∷ []) ≡ is_label_byte b
unfolding ends
ends_last [] b = refl
ends_last (x ∷ []) b = refl
ends_last (x ∷ y ∷ a) b = ends_last (y ∷ a) b

last-sound : (a s : List ℕ) → ends is_label_byte a ≡ false → last_end s ≡ true → EndsOther (a ++ s)
unfolding last_end
last-sound a s f e =
    ends-other a (run_of is_label_byte s) (behind_run is_label_byte s) (ap (λ (t : List ℕ). a ++ t) (sym (run_join is_label_byte s))) f
    (and_left (is_word "END" (run_of is_label_byte s)) _ e) (and_right (is_word "END" (run_of is_label_byte s)) _ e)

-- behind the bytes a, of which the last says whether a token may begin
after-sound : (a s : List ℕ) → ends_after (not (ends is_label_byte a)) s ≡ true → EndsOther (a ++ s)
unfolding ends_after
after-sound a [] e = absurd (true≢false (sym e))
after-sound a (b ∷ s) e =
    ⊎_elim (λ l. last-sound a (b ∷ s) (not-true (ends is_label_byte a) (and_left (not (ends is_label_byte a)) (last_end (b ∷ s)) l)) (and_right (not (ends is_label_byte a)) (last_end (b ∷ s)) l))
    (λ r. subst EndsOther (append_assoc a (b ∷ []) s) (after-sound (a ++ b ∷ []) s (ap (λ (t : Bool). ends_after (not t) s) (ends_last a b) ∙ r)))
    (or_cases (not (ends is_label_byte a) && last_end (b ∷ s)) (ends_after (not (is_label_byte b)) s) e)

pub ends-sound : (c : List ℕ) → ends_other c ≡ true → EndsOther c
unfolding ends_other ends
ends-sound c e = after-sound [] c e

last_found : (w e : List ℕ) → is_word "END" w ≡ true → every is_blank e ≡ true → last_end (w ++ e) ≡ true
unfolding last_end bytes every is_label_byte member begins
last_found w e f blank =
    let l : every is_label_byte w ≡ true = word-label "END" w f refl in
    let n : begins is_label_byte e ≡ false = rw (← append-nil e) (begins-other is_blank is_label_byte blank-no-label e [] blank refl) in
    and-true (ap (is_word "END") (run-of is_label_byte w e l n) ∙ f) (ap (every is_blank) (behind-of is_label_byte w e l n) ∙ blank)

ends-here : (t : List ℕ) → 1 ≤ length t → last_end t ≡ true → ends_after true t ≡ true
unfolding ends_after
ends-here [] h e = absurd (omega arith)
ends-here (b ∷ t) h e = or_left (last_end (b ∷ t)) _ e

ends-behind : (fresh : Bool) (b : ℕ) (a t : List ℕ) → ends is_label_byte (b ∷ a) ≡ false → ends_after true t ≡ true → ends_after fresh (b ∷ (a ++ t)) ≡ true
unfolding ends_after ends
ends-behind fresh b [] t f e = or_right (fresh && last_end (b ∷ t)) _ (ap (λ (x : Bool). ends_after (not x) t) f ∙ e)
ends-behind fresh b (c ∷ a) t f e = or_right (fresh && last_end (b ∷ c ∷ (a ++ t))) _ (ends-behind (not (is_label_byte b)) c a t f e)

ends_found : (a t : List ℕ) → ends is_label_byte a ≡ false → ends_after true t ≡ true → ends_other (a ++ t) ≡ true
unfolding ends_other
ends_found [] t f e = e
ends_found (b ∷ a) t f e = ends-behind true b a t f e

pub ends-complete : {c : List ℕ} → EndsOther c → ends_other c ≡ true
unfolding bytes
ends-complete (ends-other a w e q f word blank) =
    ap ends_other q ∙ ends_found a (w ++ e) f (ends-here (w ++ e) (omega (arith, word_some "END" w word (omega arith), length-append w e)) (last_found w e word blank))

pub ends-not : {c : List ℕ} → (EndsOther c → ⊥) → ends_other c ≡ false
ends-not {c} f = test-fails (ends_other c) (λ e. f (ends-sound c e))

-- ---- pairs

abbrev pub PairsOk : List (List ℕ) → Option (List Pair) → Type 0
PairsOk rs none = Unit {0}
PairsOk rs (some ps) = IsPairs rs ps

pub pairs-sound : (rs : List (List ℕ)) → PairsOk rs (read_pairs rs)
unfolding read_pairs with_pair
pairs-sound [] = no-pair
pairs-sound (r ∷ rs) = go (read_pair r) (read_pairs rs) (pair-sound r) (pairs-sound rs)
  where
    go : (p : Option Pair) (ps : Option (List Pair)) → PairOk r p → PairsOk rs ps → PairsOk (r ∷ rs) (with_pair p ps)
    go none ps t q = tt
    go (some p) none t q = tt
    go (some p) (some ps) t q = a_pair t.1 t.2 q

pub pairs-complete : {rs : List (List ℕ)} {ps : List Pair} → IsPairs rs ps → read_pairs rs ≡ some ps
unfolding read_pairs with_pair
pairs-complete no-pair = refl
pairs-complete (a_pair f n q) = ap₂ with_pair (pair-complete f n) (pairs-complete q)

-- ---- a tree's line

name-label : (b : ℕ) → is_name_byte b ≡ true → is_label_byte b ≡ true
unfolding is_name_byte
name-label b e = and_left (is_label_byte b) _ e

name-no-blank : (b : ℕ) → is_name_byte b ≡ true → is_blank b ≡ false
name-no-blank b e = label-no-blank b (name-label b e)

blank-no-name : (b : ℕ) → is_blank b ≡ true → is_name_byte b ≡ false
blank-no-name b e = test-fails (is_name_byte b) (λ f. true≢false (sym (name-label b f) ∙ blank-no-label b e))

-- r is a tree's name, `=` and the text t
abbrev NamedOk : List ℕ → Option (List ℕ) → Type 0
NamedOk s none = Unit {0}
NamedOk s (some t) = (n e : List ℕ) × (s ≡ n ++ (e ++ (61 ∷ t))) × (1 ≤ length n) × (every is_name_byte n ≡ true) × (every is_blank e ≡ true)

text-behind : (n e s : List ℕ) → 1 ≤ length n → every is_name_byte n ≡ true → every is_blank e ≡ true → NamedOk (n ++ (e ++ s)) (text_behind s)
unfolding text_behind
text-behind n e [] h f g = tt
text-behind n e (b ∷ s) h f g =
    by-test (NamedOk (n ++ (e ++ (b ∷ s)))) (eqb b 61) (λ q. (n, e, ap (λ (x : ℕ). n ++ (e ++ (x ∷ s))) (eqb-true b 61 q), h, f, g)) (λ q. tt)

named-sound : (s : List ℕ) → NamedOk s (name_and_text s)
unfolding name_and_text
named-sound s =
    let r = behind_run is_name_byte s in
    by-test (NamedOk s) (begins is_name_byte s)
    (λ q. subst (λ (x : List ℕ). NamedOk x (text_behind (behind_run is_blank r))) (ap (λ (x : List ℕ). run_of is_name_byte s ++ x) (run_join is_blank r) ∙ run_join is_name_byte s)
    (text-behind (run_of is_name_byte s) (run_of is_blank r) (behind_run is_blank r) (run-begins is_name_byte s q) (run-every is_name_byte s) (run-every is_blank r)))
    (λ q. tt)

abbrev pub LineOk : List ℕ → Option (List ℕ) → Type 0
LineOk c none = Unit {0}
LineOk c (some t) = IsLine c t

line_ok : (c : List ℕ) → is_word "TREE" (first_token c) ≡ true → (o : Option (List ℕ)) → NamedOk (behind_run is_blank (behind_first c)) o → LineOk c o
unfolding bytes
line_ok c e none h = tt
line_ok c e (some t) h =
    is-line (run_of is_blank (behind_first c)) h.0 h.1 (first-stands c (word_some "TREE" (first_token c) e (omega arith))) e
    (sym (ap (λ (x : List ℕ). run_of is_blank (behind_first c) ++ x) (sym h.2) ∙ run_join is_blank (behind_first c))) (run-every is_blank (behind_first c)) h.3 h.4 h.5

pub line-sound : (c : List ℕ) → LineOk c (read_line c)
unfolding read_line
line-sound c =
    by-test (LineOk c) (is_word "TREE" (first_token c))
    (λ e. line_ok c e (name_and_text (behind_run is_blank (behind_first c))) (named-sound (behind_run is_blank (behind_first c)))) (λ e. tt)

module _ (n e t : List ℕ) (some_byte : 1 ≤ length n) (name : every is_name_byte n ≡ true) (blank : every is_blank e ≡ true) where
  behind-name : behind_run is_blank (behind_run is_name_byte (n ++ (e ++ (61 ∷ t)))) ≡ 61 ∷ t
  unfolding begins is_name_byte is_blank member bytes
  behind-name =
      ap (behind_run is_blank) (behind-of is_name_byte n (e ++ (61 ∷ t)) name (begins-other is_blank is_name_byte blank-no-name e (61 ∷ t) blank refl))
      ∙ behind-of is_blank e (61 ∷ t) blank refl

  name-read : name_and_text (n ++ (e ++ (61 ∷ t))) ≡ some t
  unfolding name_and_text text_behind
  name-read = if-true _ _ (begins-of is_name_byte n (e ++ (61 ∷ t)) some_byte name) ∙ ap text_behind behind-name

pub line-complete : {c t : List ℕ} → IsLine c t → read_line c ≡ some t
unfolding read_line
line-complete {c} {t} (is-line a n e f word q blank h name blanks) =
    let x = n ++ (e ++ (61 ∷ t)) in
    let g = first_found f in
    if-true _ _ (ap (is_word "TREE") g.token-found ∙ word)
    ∙ ap (λ (r : List ℕ). name_and_text (behind_run is_blank r)) (g.rest-found ∙ q)
    ∙ ap name_and_text (behind-of is_blank a x blank (begins-apart is_name_byte is_blank name-no-blank n (e ++ (61 ∷ t)) h name)) ∙ name-read n e t h name blanks

-- ---- the end of the TREES block

pub end-sound : (c : List ℕ) → is_end c ≡ true → IsEnd c
unfolding is_end bytes
end-sound c e =
    let w = and_left (is_word "END" (first_token c)) _ e in
    is-end (first-stands c (word_some "END" (first_token c) w (omega arith))) w (and_right (is_word "END" (first_token c)) _ e)

pub end-complete : {c : List ℕ} → IsEnd c → is_end c ≡ true
unfolding is_end
end-complete (is-end f word blank) =
    let g = first_found f in and-true (ap (is_word "END") g.token-found ∙ word) (ap (every is_blank) g.rest-found ∙ blank)
