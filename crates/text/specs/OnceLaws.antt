-- Each promise of the readers by bytes leaves one place.
--
--   skipped-once, run-once, quoted-once, label-once
--   place-once                the symbols from a place on, where no blank stands and over which no symbol reaches, tell the place
--   behind-once, closing-once
use Prim.Native.Nat.{ℕ, zero, suc, ◌+◌, ◌-◌, ◌≤◌, ◌<◌}
use Rattle.std.proofs.Common.{add-one, ◌∙◌, inl, inr, true≢false, eqb-true, leb-true, leb-false}
use native.Mathlib.Omega.{arith}
use Rattle.std.specs.Prelude.{◌≡◌, ◌⊎◌, Bool, true, eqb, leb, get_or, drop, if◌then◌else◌}
use Rattle.std.proofs.Math.Path.{refl, ap, sym, subst}
use Rattle.std.proofs.Math.Bool.{false}
use mathlib.Core.List.{List, [], ◌∷◌, ◌++◌}
use Rattle.std.proofs.Math.Option.{none, some}
use Rattle.std.proofs.Math.ListN.{length}
use Rattle.std.proofs.Math.Seq.{slice, slice_empty, slice-cons, length-slice}
use Rattle.trees.specs.Text.{Symbol, Kind, blank, label, mark, kind, kind_in, apostrophe, turned, open_after, is_label, open_bracket, close_bracket, comma, colon, stray, token, symbols_after, ended}
use Rattle.trees.specs.Tree.{Nodes, nil, leaf, inner, width}
use Rattle.trees.specs.Reading.{Read, read_closing}
use Rattle.theorems.specs.ListLaws.{less-or-not}
use Rattle.theorems.specs.QuoteLaws.{open-append}
use Rattle.theorems.specs.TextLaws.{by_kind, symbols-step}
use Rattle.theorems.specs.LabelLaws.{quote-kind, Ends}
use Rattle.text.specs.Read.{kind_no, kind_at, NoBlank, symbols_at, Skipped, RunEnd, QuotedEnd, LabelEnd, Parted, Unmeasured, Behind, ClosingBehind}
use Rattle.text.specs.PlaceLaws.{front, kind-there, ends_at}
use Rattle.text.specs.SliceLaws.{slice-parts}

-- ---- ends of runs

-- of two places neither is before the other
same_place : (q r : ℕ) → (q < r → ⊥) → (r < q → ⊥) → q ≡ r
same_place q r f g = go (less-or-not q r) (less-or-not r q)
  where
    go : (q < r) ⊎ (r ≤ q) → (r < q) ⊎ (q ≤ r) → q ≡ r
    go (inl h) y = absurd (f h)
    go (inr h) (inl l) = absurd (g l)
    go (inr h) (inr l) = omega arith

module _ (s : List ℕ) (i : ℕ) where
  skipped-less : (q r : ℕ) → Skipped s i q → Skipped s i r → q < r → ⊥
  skipped-less q r a b h = a.stop (b.each q a.past h)

  pub skipped-once : (q r : ℕ) → Skipped s i q → Skipped s i r → q ≡ r
  skipped-once q r a b = same_place q r (skipped-less q r a b) (skipped-less r q b a)

  run-less : (q r : ℕ) → RunEnd s i q → RunEnd s i r → q < r → ⊥
  run-less q r a b h = true≢false (sym (b.each q a.past h) ∙ a.stop (omega (arith, b.within)))

  pub run-once : (q r : ℕ) → RunEnd s i q → RunEnd s i r → q ≡ r
  run-once q r a b = same_place q r (run-less q r a b) (run-less r q b a)

  same-slice : (q r : ℕ) → i ≤ q → i ≤ r → q ≤ length s → r ≤ length s → length (slice i q s) ≡ length (slice i r s) → q ≡ r
  same-slice q r h l m n e = omega (arith, e, length-slice i q s m, length-slice i r s n)

  quoted-not : (q r : ℕ) → QuotedEnd s i q → QuotedEnd s i r → q ≤ length s → length s < r → ⊥
  quoted-not q r a b h l = true≢false (sym (a.good h).1 ∙ ap is_label (sym (a.good h).2) ∙ (b.fault l).1)

  pub quoted-once : (q r : ℕ) → QuotedEnd s i q → QuotedEnd s i r → q ≡ r
  quoted-once q r a b = go (less-or-not (length s) q) (less-or-not (length s) r)
    where
      go : (length s < q) ⊎ (q ≤ length s) → (length s < r) ⊎ (r ≤ length s) → q ≡ r
      go (inl h) (inl l) = (a.fault h).0 ∙ sym (b.fault l).0
      go (inl h) (inr l) = absurd (quoted-not r q b a l h)
      go (inr h) (inl l) = absurd (quoted-not q r a b h l)
      go (inr h) (inr l) =
          let x = a.good h in
          let y = b.good l in
          same-slice q r (omega (arith, x.0)) (omega (arith, y.0)) h l (ap length (sym x.2 ∙ y.2))

-- ---- ends of labels

first_length : List Symbol → ℕ
first_length [] = 0
first_length (open_bracket ∷ r) = 0
first_length (close_bracket ∷ r) = 0
first_length (comma ∷ r) = 0
first_length (colon ∷ r) = 0
first_length (stray ∷ r) = 0
first_length (token w ∷ r) = length w

-- a label from i up to r, none that begins there, or what is none
data LabelCase (s : List ℕ) (i r : ℕ) : Type 0 where
  good : i < r → r ≤ length s → LabelCase s i r
  absent : i ≡ r → LabelCase s i r
  fault : length s < r → LabelCase s i r

label-case : (s : List ℕ) (i r : ℕ) → i ≤ r → LabelCase s i r
label-case s i r h = go (less-or-not i r) (less-or-not (length s) r)
  where
    go : (i < r) ⊎ (r ≤ i) → (length s < r) ⊎ (r ≤ length s) → LabelCase s i r
    go (inl l) (inl m) = fault m
    go (inl l) (inr m) = good l m
    go (inr l) y = absent (omega arith)

pub label-once : (s : List ℕ) (i q r : ℕ) → LabelEnd s i q → LabelEnd s i r → q ≡ r
unfolding first_length
label-once s i q r a b = go (label-case s i q a.past) (label-case s i r b.past)
  where
    go : LabelCase s i q → LabelCase s i r → q ≡ r
    go (good h l) (good m n) = same-slice s i q r a.past b.past l n (ap first_length (sym (a.good h l).2 ∙ (b.good m n).2))
    go (good h l) (absent m) = absurd (b.absent m (a.good h l).0)
    go (good h l) (fault m) = absurd (omega (arith, ap front (sym (a.good h l).2 ∙ (b.fault m).3)))
    go (absent h) (good m n) = absurd (a.absent h (b.good m n).0)
    go (absent h) (absent m) = sym h ∙ m
    go (absent h) (fault m) = absurd (a.absent h (b.fault m).1)
    go (fault h) (good m n) = absurd (omega (arith, ap front (sym (b.good m n).2 ∙ (a.fault h).3)))
    go (fault h) (absent m) = absurd (b.absent m (a.fault h).1)
    go (fault h) (fault m) = (a.fault h).0 ∙ sym (b.fault m).0

-- ---- the place

-- whether a run has begun
begun : List ℕ → ℕ
begun [] = 0
begun (b ∷ w) = 1

begun-few : (w : List ℕ) → begun w ≤ 1
unfolding begun
begun-few [] = omega arith
begun-few (b ∷ w) = omega arith

begun_more : (w : List ℕ) (b : ℕ) → begun (w ++ b ∷ []) ≡ 1
unfolding begun
begun_more [] b = refl
begun_more (c ∷ w) b = refl

ended-count : (w : List ℕ) (r : List Symbol) → length (ended w r) ≡ begun w + length r
unfolding ended begun
ended-count [] r = omega arith
ended-count (b ∷ w) r = omega arith

-- how many symbols there are at least up to a byte of the kind k, behind the bytes w of a run
counted : Kind → List ℕ → ℕ
counted blank w = begun w
counted label w = 1
counted (mark m) w = suc (begun w)

blank-other : blank ≡ label → ⊥
blank-other e = omega (arith, ap kind_no e)

is_mark : Kind → Bool
is_mark blank = false
is_mark label = false
is_mark (mark m) = true

mark-other : (m : Symbol) → mark m ≡ label → ⊥
unfolding is_mark
mark-other m e = true≢false (ap is_mark e)

counted-some : (k : Kind) → (kind_no k ≡ 0 → ⊥) → 1 ≤ counted k []
unfolding counted
counted-some blank h = absurd (h refl)
counted-some label h = omega arith
counted-some (mark m) h = omega arith

-- a byte that is of no label closes and opens nothing
other-shut : (o : Bool) (b : ℕ) → (kind_in o b ≡ label → ⊥) → turned o b ≡ false
unfolding kind_in turned
other-shut true b n = absurd (n refl)
other-shut false b n = go (eqb b apostrophe) refl
  where
    go : (t : Bool) → eqb b apostrophe ≡ t → (if t then true else false) ≡ false
    go true e = absurd (n (ap kind (eqb-true b apostrophe e) ∙ quote-kind))
    go false e = refl

-- one of a label, behind which quotes are closed, is so outside quotes too
label-shut : (o : Bool) (b : ℕ) → kind_in o b ≡ label → turned o b ≡ false → kind b ≡ label
unfolding kind_in turned
label-shut false b k c = k
label-shut true b k c = go (eqb b apostrophe) refl c
  where
    go : (t : Bool) → eqb b apostrophe ≡ t → (if t then false else true) ≡ false → kind b ≡ label
    go true e d = ap kind (eqb-true b apostrophe e) ∙ quote-kind
    go false e d = absurd (true≢false d)

module _ (s : List ℕ) (r : ℕ) (within : r ≤ length s) where
  -- no run that goes on to r, with closed quotes, goes on over it
  Ending : ℕ → Type 0
  Ending j = (k : ℕ) → j ≤ k → k + 1 ≡ r → kind_at s k ≡ 1 → kind_at s r ≡ 1 → ⊥

  -- from j on, behind the bytes w of a run, stand as many symbols as from r on, and the run
  Counts : ℕ → List ℕ → ℕ → Type 0
  Counts j w n = n + length (symbols_at s r) ≤ length (symbols_after w (drop j s))

  -- what `counts` wants of the place j and the bytes w
  record At (j : ℕ) (w : List ℕ) : Type 0 where
    shut : open_after (open_after false w) (slice j r s) ≡ false
    last : j ≡ r → 1 ≤ length w → Ends (drop r s)
    ending : Ending j

  at-end : (w : List ℕ) → At r w → Counts r w (begun w)
  unfolding Counts begun Ends open_after
  at-end [] a = omega arith
  at-end (b ∷ w) a =
      let e : symbols_after (b ∷ w) (drop r s) ≡ ended (b ∷ w) (symbols_at s r) = a.last refl (omega arith) (b ∷ w) (sym (ap (open_after (open_after false (b ∷ w))) (slice_empty r s)) ∙ a.shut) in
      omega (arith, ap length e, ended-count (b ∷ w) (symbols_at s r))

  module _ (j : ℕ) (h : j < r) (w : List ℕ) (a : At j w) (more : (v : List ℕ) → At (j + 1) v → Counts (j + 1) v (begun v)) where
    abbrev b : ℕ
    b = get_or s j 0

    abbrev o : Bool
    o = open_after false w

    here : j < length s
    here = omega arith

    shut-on : open_after (turned o b) (slice (j + 1) r s) ≡ false
    unfolding open_after
    shut-on =
        ap (λ (n : ℕ). open_after (turned o b) (slice n r s)) (add-one j) ∙ sym (ap (open_after o) (slice-cons j r s 0 h within)) ∙ a.shut

    ending-on : Ending (j + 1)
    unfolding Ending
    ending-on k l = a.ending k (omega arith)

    apart : (kind_in o b ≡ label → ⊥) → At (j + 1) []
    unfolding open_after
    apart n = record { shut = ap (λ (x : Bool). open_after x (slice (j + 1) r s)) (sym (other-shut o b n)) ∙ shut-on; last = λ e l. absurd (omega arith); ending = ending-on }

    along : kind_in o b ≡ label → At (j + 1) (w ++ b ∷ [])
    unfolding open_after Ending
    along k = record {
      shut = ap (λ (x : Bool). open_after x (slice (j + 1) r s)) (open-append false w (b ∷ [])) ∙ shut-on;
      last = λ e l. ends_at s r (a.ending j (omega arith) e (kind-there s j here ∙ ap kind_no (label-shut o b k (sym (ap (open_after (turned o b)) (ap (λ (n : ℕ). slice n r s) e ∙ slice_empty r s)) ∙ shut-on))));
      ending = ending-on;
    }

    step : (k : Kind) → kind_in o b ≡ k → Counts j w (counted k w)
    unfolding Counts counted by_kind begun
    step blank e =
        let m = more [] (apart (λ n. blank-other (sym e ∙ n))) in
        omega (arith, m, ap length (symbols-step s j here blank w e), ended-count w (symbols_at s (j + 1)))
    step label e = let m = more (w ++ b ∷ []) (along e) in omega (arith, m, begun_more w b, ap length (symbols-step s j here label w e))
    step (mark x) e =
        let m = more [] (apart (λ n. mark-other x (sym e ∙ n))) in
        omega (arith, m, ap length (symbols-step s j here (mark x) w e), ended-count w (x ∷ symbols_at s (j + 1)))

  counted-most : (k : Kind) (w : List ℕ) → begun w ≤ counted k w
  unfolding counted
  counted-most blank w = omega arith
  counted-most label w = begun-few w
  counted-most (mark m) w = omega arith

  counts : (n j : ℕ) → j + n ≡ r → (w : List ℕ) → At j w → Counts j w (begun w)
  unfolding Counts
  counts zero j e w a = let z : j ≡ r = omega arith in subst (λ (x : ℕ). Counts x w (begun w)) (sym z) (at-end w (subst (λ (x : ℕ). At x w) z a))
  counts (suc n) j e w a =
      let k = kind_in (open_after false w) (get_or s j 0) in
      let m = step j (omega arith) w a (counts n (j + 1) (omega arith)) k refl in
      omega (arith, m, counted-most k w)

  module _ (i q : ℕ) (from : i ≤ q) (a : Parted s i q) (c : Parted s i r) where
    at-start : q < r → At q []
    unfolding open_after Ending
    at-start h = record {
      shut = ap (λ (x : Bool). open_after x (slice q r s)) (sym a.closed) ∙ sym (open-append false (slice i q s) (slice q r s)) ∙ sym (ap (open_after false) (slice-parts s i q from r (omega arith) within)) ∙ c.closed;
      last = λ e l. absurd (omega arith);
      ending = λ k l. c.ends k (omega arith);
    }

    place-less : q < r → NoBlank s q → symbols_at s q ≡ symbols_at s r → ⊥
    unfolding Counts kind_in open_after
    place-less h n e =
        let k = kind (get_or s q 0) in
        let m = step q h [] (at-start h) (counts (r - (q + 1)) (q + 1) (omega arith)) k refl in
        let l = counted-some k (λ z. n (kind-there s q (omega arith) ∙ z)) in
        omega (arith, m, l, ap length e)

module _ (s : List ℕ) (i : ℕ) where
  -- a place behind i, where no blank stands and over which no symbol reaches
  record Place (r : ℕ) : Type 0 where
    from : i ≤ r
    stop : NoBlank s r
    parted : Parted s i r

  place-once : (q r : ℕ) → q ≤ length s → r ≤ length s → Place q → Place r → symbols_at s q ≡ symbols_at s r → q ≡ r
  place-once q r h l a b e =
      same_place q r (λ m. place-less s r l i q a.from a.parted b.parted m a.stop e) (λ m. place-less s q h i r b.from b.parted a.parted m b.stop (sym e))

-- ---- what may follow some nodes

-- x, which reads nodes from i on, or nothing, says up to where
record Stops (x : Read) (s : List ℕ) (i q : ℕ) : Type 0 where
  good : q ≤ length s → (t : Nodes) × (x ≡ some (t, symbols_at s q)) × Place s i q
  fault : length s < q → (q ≡ length s + 1) × (x ≡ none)

after : Read → List Symbol
after none = []
after (some p) = p.1

found : Read → ℕ
found none = 0
found (some p) = 1

stops-once : (x : Read) (s : List ℕ) (i q r : ℕ) → Stops x s i q → Stops x s i r → q ≡ r
unfolding after found
stops-once x s i q r a b = go (leb q (length s)) (leb r (length s)) refl refl
  where
    go : (c d : Bool) → leb q (length s) ≡ c → leb r (length s) ≡ d → q ≡ r
    go true true y z =
        let h = leb-true q (length s) y in
        let l = leb-true r (length s) z in
        place-once s i q r h l (a.good h).2 (b.good l).2 (ap after (sym (a.good h).1 ∙ (b.good l).1))
    go true false y z = absurd (omega (arith, ap found (sym (a.good (leb-true q (length s) y)).1 ∙ (b.fault (leb-false r (length s) z)).1)))
    go false true y z = absurd (omega (arith, ap found (sym (b.good (leb-true r (length s) z)).1 ∙ (a.fault (leb-false q (length s) y)).1)))
    go false false y z = (a.fault (leb-false q (length s) y)).0 ∙ sym (b.fault (leb-false r (length s) z)).0

-- no nodes, whatever the length
nothing : Unmeasured
nothing x = nil

pub behind-once : (F : Unmeasured → List Symbol → Read) (s : List ℕ) (i q r : ℕ) → Behind F s i q → Behind F s i r → q ≡ r
behind-once F s i q r a b = stops-once (F nothing (symbols_at s i)) s i q r (stops q a) (stops r b)
  where
    stops : (j : ℕ) → Behind F s i j → Stops (F nothing (symbols_at s i)) s i j
    stops j c = record {
      good = λ h. let g = c.good h in (nothing g.0, g.1 nothing, record { from = g.2; stop = g.3; parted = g.4 });
      fault = λ h. ((c.fault h).0, (c.fault h).1 nothing);
    }

-- n nodes, whatever they are
wide : ℕ → Nodes
wide zero = nil
wide (suc n) = leaf [] none (wide n)

wide-width : (n : ℕ) → width (wide n) ≡ n
unfolding width wide
wide-width zero = refl
wide-width (suc n) = ap suc (wide-width n)

pub closing-once : (s : List ℕ) (i n q r : ℕ) → ClosingBehind s i n q → ClosingBehind s i n r → q ≡ r
closing-once s i n q r a b = stops-once (read_closing (wide n) (symbols_at s i)) s i q r (stops q a) (stops r b)
  where
    stops : (j : ℕ) → ClosingBehind s i n j → Stops (read_closing (wide n) (symbols_at s i)) s i j
    stops j c = record {
      good = λ h. let g = c.good h in (inner (wide n) g.0 nil, g.1 (wide n) (wide-width n), record { from = omega (arith, g.2); stop = g.3; parted = g.4 });
      fault = λ h. ((c.fault h).0, (c.fault h).1 (wide n) (wide-width n));
    }
