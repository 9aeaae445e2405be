-- The laws of the search for a label. Assumes nothing.
--
--   sought-start, sought-next, sought-here, sought-out, sought-less     the search as the loop makes it
--   found_below, below_at              a taxon that is found is one of the names
--   found_at, found_nothing            what the answer says of the label
--   run_more, run-not, run_end, run-unlike     two runs compared byte by byte
--   label-found, longer-found          a label by the name that it reads as, which is none where it is longer than any can be
use Rattle.std.specs.Prelude.{◌≡◌, ℕ, zero, suc, ◌+◌, ◌-◌, ◌*◌, ◌<◌, ◌≤◌, true, false, ◌&&◌, List, [], ◌∷◌, length, drop, ◌==◌, ◌≢◌, slice_index, slice_index_or, refl, None, Some, Option as CodeOption}
use Rattle.std.proofs.Math.Numerals.{add-one}
use native.Mathlib.Omega.{arith}
use Rattle.std.proofs.Math.Path.{sym, ap}
use Rattle.std.proofs.Common.{◌∙◌, drop_of_length-le, drop-cons, eq-eqb, ne_eqb}
use Rattle.std.proofs.Math.Option.{Option, none, some}
use Rattle.std.proofs.Math.Seq.{slice, slice_empty, slice-cons}
use Rattle.trees.specs.Plain.{same_bytes}
use Rattle.trees.specs.Text.{read_as}
use Rattle.trees.specs.Names.{taxon_from, taxon_of}
use Rattle.theorems.specs.ListLaws.{if-true, if-false}
use Rattle.theorems.specs.SplitLaws.{taxon_from-below}
use Rattle.answers.specs.declared.Taxon.{Taxon}
use Rattle.head.specs.Head.{numbers_at, names_at}
use Rattle.head.specs.HeadLaws.{names-length, names-at, name-most}
use Rattle.head.specs.Index.{key, next_with, Indexed, found_of, Below, after, Sought, left}
use Rattle.head.specs.IndexLaws.{key_below, same_not, other_key, next-cases, next-left}

-- ---- the names from a taxon on

module _ (ns : List (List ℕ)) (w : List ℕ) (i : ℕ) (h : i < length ns) where
  taxon-here : same_bytes (slice_index_or ns i []) w ≡ true → taxon_from i (drop i ns) w ≡ some i
  unfolding taxon_from
  taxon-here q =
      ap (λ l. taxon_from i l w) (drop-cons ns i [] h) ∙ if-true (some i) (taxon_from (suc i) (drop (suc i) ns) w) q

  taxon-later : same_bytes (slice_index_or ns i []) w ≡ false → taxon_from (i + 1) (drop (i + 1) ns) w ≡ taxon_from i (drop i ns) w
  unfolding taxon_from
  taxon-later q =
      rw add-one
      (sym (ap (λ l. taxon_from i l w) (drop-cons ns i [] h) ∙ if-false (some i) (taxon_from (suc i) (drop (suc i) ns) w) q))

-- ---- the search as the loop makes it

module _ (ns : List (List ℕ)) (w : List ℕ) where
  sought-past : (i : ℕ) → length ns ≤ i → taxon_from i (drop i ns) w ≡ taxon_from 0 ns w → Sought ns w 0
  unfolding after taxon_from
  sought-past i h e =
      record {
        within = omega arith;
        keyed = λ n. absurd (n refl);
        rest = sym (ap (λ l. taxon_from i l w) (drop_of_length-le ns h)) ∙ e;
      }

  sought-keyed : (i : ℕ) → i < length ns → key (slice_index_or ns i []) ≡ key w → taxon_from i (drop i ns) w ≡ taxon_from 0 ns w
      → Sought ns w (i + 1)
  unfolding after
  sought-keyed i h q e =
      let d : i + 1 - 1 ≡ i = omega arith in
      record { within = omega arith; keyed = λ n. rw d q; rest = rw (add-one i) e }

  -- where the names from i on decide, so do those from the next of the label's key on
  sought-from : (i : ℕ) → taxon_from i (drop i ns) w ≡ taxon_from 0 ns w → Sought ns w (next_with ns (key w) i)
  sought-from i =
      next-cases ns (key w) (λ j n. taxon_from j (drop j ns) w ≡ taxon_from 0 ns w → Sought ns w n)
      sought-past sought-keyed
      (λ j n h q f e. f (taxon-later ns w j h (other_key _ _ q) ∙ e))
      (length ns) i (omega arith)

  module _ (starts links : List ℕ) (x : Indexed ns starts links) where
    pub sought-start : Sought ns w (slice_index starts (key w))
    sought-start = rw (x.firsts (key w) (key_below w)) (sought-from 0 refl)

    link_at : (i : ℕ) → Sought ns w (suc i) → slice_index links i ≡ next_with ns (key w) (i + 1)
    link_at i p =
        let d : suc i - 1 ≡ i = omega arith in
        let q : key (slice_index_or ns i []) ≡ key w = rw d at (p.keyed (λ z. omega arith)) in
        let l = p.within in
        x.nexts i (omega arith) ∙ rw q

    pub sought-next : (n : ℕ) → Sought ns w n → (n ≢ 0) → same_bytes (slice_index_or ns (n - 1) []) w ≡ false
        → Sought ns w (slice_index links (n - 1))
    unfolding after
    sought-next zero p z q = absurd (z refl)
    sought-next (suc i) p z q =
        let d : suc i - 1 ≡ i = omega arith in
        let l = p.within in
        let r : same_bytes (slice_index_or ns i []) w ≡ false = rw d at q in
        rw (d, link_at i p) (sought-from (i + 1) (taxon-later ns w i (omega arith) r ∙ p.rest))

    pub sought-less : (n : ℕ) → Sought ns w n → (n ≢ 0) → length ns ≤ 64 → left (slice_index links (n - 1)) < left n
    unfolding left
    sought-less zero p z few = absurd (z refl)
    sought-less (suc i) p z few =
        let d : suc i - 1 ≡ i = omega arith in
        let l = p.within in
        let r = next-left ns (key w) (i + 1) in
        rw (d, link_at i p) (omega arith)

  pub sought-here : (n : ℕ) → Sought ns w n → (n ≢ 0) → same_bytes (slice_index_or ns (n - 1) []) w ≡ true
      → Some (record { 0 = n - 1 }) ≡ found_of (taxon_from 0 ns w)
  unfolding after found_of
  sought-here zero p z q = absurd (z refl)
  sought-here (suc i) p z q =
      let d : suc i - 1 ≡ i = omega arith in
      let l = p.within in
      let r : same_bytes (slice_index_or ns i []) w ≡ true = rw d at q in
      rw d (ap found_of (sym (taxon-here ns w i (omega arith) r) ∙ p.rest))

  pub sought-out : (n : ℕ) → Sought ns w n → n ≡ 0 → None ≡ found_of (taxon_from 0 ns w)
  unfolding after found_of
  sought-out n p z = ap found_of (rw z at p.rest)

pub found_below : (ns : List (List ℕ)) (w : List ℕ) (n : ℕ) (f : CodeOption Taxon) → length ns ≡ n → f ≡ found_of (taxon_from 0 ns w) → Below n f
unfolding Below found_of
found_below ns w n f l e = rw (← l, e) (go (taxon_from 0 ns w) refl)
  where
    go : (o : Option ℕ) → taxon_from 0 ns w ≡ o → Below (length ns) (found_of o)
    go none q = tt
    go (some i) q = omega (arith, taxon_from-below ns 0 w i q)

pub below_at : (n : ℕ) (t : Taxon) → Below n (Some t) → t.0 < n
unfolding Below
below_at n t h = h

pub found_at : (o : Option ℕ) (t : Taxon) → Some t ≡ found_of o → o ≡ some t.0
unfolding found_of
found_at none t e = let z : ◌≡◌ {A = ℕ} 0 1 = cc in absurd (omega arith)
found_at (some i) t e = cc

pub found_nothing : (o : Option ℕ) → None ≡ found_of o → o ≡ none
unfolding found_of
found_nothing none e = refl
found_nothing (some i) e = let z : ◌≡◌ {A = ℕ} 0 1 = cc in absurd (omega arith)

-- ---- two runs compared byte by byte

module _ (s t : List ℕ) (z e i j : ℕ) where
  run-cons : i < z → z ≤ length s → j < e → e ≤ length t
      → same_bytes (slice i z s) (slice j e t) ≡ (slice_index s i == slice_index t j && same_bytes (slice (i + 1) z s) (slice (j + 1) e t))
  unfolding same_bytes
  run-cons h l f m = rw (slice-cons i z s 0 h l, slice-cons j e t 0 f m, add-one i, add-one j)

  pub run_more : i < z → z ≤ length s → j < e → e ≤ length t → slice_index s i ≡ slice_index t j
      → same_bytes (slice i z s) (slice j e t) ≡ same_bytes (slice (i + 1) z s) (slice (j + 1) e t)
  run_more h l f m q = run-cons h l f m ∙ rw (eq-eqb _ _ q)

  pub run-not : i < z → z ≤ length s → j < e → e ≤ length t → (slice_index s i ≢ slice_index t j)
      → same_bytes (slice i z s) (slice j e t) ≡ false
  run-not h l f m q = run-cons h l f m ∙ rw (ne_eqb _ _ q)

  pub run_end : i ≡ z → j ≡ e → same_bytes (slice i z s) (slice j e t) ≡ true
  unfolding same_bytes
  run_end h f = rw (h, f, slice_empty z s, slice_empty e t)

-- of other lengths
pub run-unlike : (v w : List ℕ) → (length v ≢ length w) → same_bytes v w ≡ false
run-unlike v w n = same_not v w (λ e. n (ap length e))

-- ---- the label, and the name that it reads as

pub label-found : (s w v : List ℕ) (f : CodeOption Taxon) → read_as w ≡ v → f ≡ found_of (taxon_from 0 (names_at s) v)
    → (f ≡ found_of (taxon_of (names_at s) w)) × Below (numbers_at s).taxa f
unfolding taxon_of
label-found s w v f e q = (rw e q, found_below (names_at s) v (numbers_at s).taxa f (names-length s) q)

-- no name is as long as w
longer-none : (ns : List (List ℕ)) (w : List ℕ) (k : ℕ) → ((i : ℕ) → i < length ns → length (slice_index_or ns i []) < length w) → taxon_from k ns w ≡ none
unfolding taxon_from
longer-none [] w k h = refl
longer-none (v ∷ vs) w k h =
    if-false (some k) (taxon_from (suc k) vs w) (run-unlike v w (λ e. let l = h 0 (omega arith) in omega (arith, e)))
    ∙ longer-none vs w (suc k) (λ i l. h (suc i) (omega arith))

pub longer-found : (s w : List ℕ) → ((i : ℕ) → slice_index s i < 256) → 255 < length w → None ≡ found_of (taxon_from 0 (names_at s) w)
unfolding found_of
longer-found s w b h =
    ap found_of (sym (longer-none (names_at s) w 0 (λ i l.
    let n = names-length s in
    rw (names-at s i (omega arith)) (omega (arith, name-most s i, b (16 + 33 * i))))))
