-- The symbol of a run of bytes: a token where it is a label, else a stray one.
--
--   token-at             a label from i up to r is a token
--   StrayFirst l         the symbols l begin with a stray one
--   plain-stray          label bytes with an apostrophe behind them
--   byte-stray, label-stray     a run in quotes with a label byte behind it, and one that is no label
--   quote-there, label-there, no-label-there     what the tests of a byte say of a place
--   end-plain, end-odd, end-followed, end-quoted     what `label_end` answers
use Prim.Native.Nat.{ℕ, suc, ◌+◌, ◌≤◌, ◌<◌}
use native.Mathlib.Omega.{arith}
use mathlib.Core.Path.{◌≡◌, refl, ap, ap₂, sym, ◌∙◌, subst}
use mathlib.Core.Logic.{◌⊎◌, inl, inr, ⊎_elim}
use mathlib.Core.Bool.{Bool, true, false, ◌&&◌, ◌||◌, true≢false}
use mathlib.Core.List.{List, [], ◌∷◌, ◌++◌}
use lib.Dec.{eqb, ltb, leb}
use lib.ListN.{length, get_or, drop}
use lib.Seq.{slice, slice-cons, length-slice, drop-cons}
use borrow.Author.Tests.{eqb-true, lt-ltb, ltb-true}
use Rattle.std.specs.Prelude.{if◌then◌else◌}
use Rattle.trees.specs.Plain.{every}
use Rattle.trees.specs.Text.{Symbol, Kind, blank, label, mark, kind, kind_in, apostrophe, is_label_byte, is_quoted_byte, turned, open_after, is_quoted, is_label, stray, token, symbols, symbols_after, ended}
use Rattle.trees.specs.NexusReading.{quoted_run, behind_quoted}
use Rattle.theorems.specs.ListLaws.{if-false, mem-left, mem-right, every-at, less-or-not}
use Rattle.theorems.specs.QuoteLaws.{or-none, or-rest}
use Rattle.theorems.specs.TextLaws.{by_kind, symbols-cons}
use Rattle.theorems.specs.NameLaws.{every-label, label-kind, test-fails}
use Rattle.theorems.specs.LabelLaws.{label-other, plain_label, label-cases, label-closed, InRun, quote-kind, plain-run, run-taken, label-run}
use Rattle.theorems.specs.PairLaws.{quoted-join}
use Rattle.text.specs.Read.{kind_no, kind_at, has_byte, has_label_byte, symbols_at, RunEnd, QuotedEnd, LabelEnd}
use Rattle.text.specs.PlaceLaws.{there, kind-there, kind-label, run-front, ends_at}
use Rattle.text.specs.SliceLaws.{slice-join, every-slice}

-- ---- a label is a token

module _ (s : List ℕ) (i r : ℕ) (le : i ≤ r) (within : r ≤ length s) where
  pub token-at : is_label (slice i r s) ≡ true → (kind_at s r ≡ 1 → ⊥) → symbols_at s i ≡ token (slice i r s) ∷ symbols_at s r
  token-at e n = ap symbols (slice-join s i r le within) ∙ label-run (slice i r s) (drop r s) e (ends_at s r n)

-- ---- a stray symbol

abbrev pub StrayFirst : List Symbol → Type 0
StrayFirst l = (ss : List Symbol) × (l ≡ stray ∷ ss)

ended-stray : (b : ℕ) (w : List ℕ) (ss : List Symbol) → is_label (b ∷ w) ≡ false → StrayFirst (ended (b ∷ w) ss)
unfolding ended
ended-stray b w ss e = (ss, ap (λ (x : Symbol). x ∷ ss) (if-false (token (b ∷ w)) stray e))

stray-is : {k l : List Symbol} → k ≡ l → StrayFirst l → StrayFirst k
stray-is e p = (p.0, e ∙ p.1)

-- a run that is no label, however it goes on
run-stray : (b : ℕ) (w t : List ℕ) → ((x : List ℕ) → is_label (b ∷ (w ++ x)) ≡ false) → StrayFirst (symbols_after (b ∷ w) t)
run-stray b w t f = let r = run-front b w t in stray-is r.2 (ended-stray b (w ++ r.0) r.1 (f r.0))

-- ---- label bytes

quote-in : (q : Bool) → kind_in q apostrophe ≡ label
unfolding kind_in
quote-in true = refl
quote-in false = quote-kind

quote-no-label : is_label_byte apostrophe ≡ false
unfolding is_label_byte
quote-no-label = refl

quote-not : is_label_byte apostrophe ≡ true → ⊥
quote-not e = true≢false (sym e ∙ quote-no-label)

-- with an apostrophe among them
plain-not : (b : ℕ) (w x : List ℕ) → is_label_byte b ≡ true → is_label (b ∷ ((w ++ apostrophe ∷ []) ++ x)) ≡ false
plain-not b w x h = test-fails (is_label (b ∷ ((w ++ apostrophe ∷ []) ++ x))) (λ e. ⊎_elim (λ c. first c.0 c.1) (λ p. quote-not (every-at is_label_byte (b ∷ ((w ++ apostrophe ∷ []) ++ x)) p apostrophe (inr (mem-left apostrophe (w ++ apostrophe ∷ []) x (mem-right apostrophe w (apostrophe ∷ []) (inl refl)))))) (label-cases (b ∷ ((w ++ apostrophe ∷ []) ++ x)) e))
  where
    first : (v : List ℕ) → b ∷ ((w ++ apostrophe ∷ []) ++ x) ≡ apostrophe ∷ v → ⊥
    first v e = quote-not (sym (ap (λ (l : List ℕ). is_label_byte (get_or l 0 0)) e) ∙ h)

plain-stray : (b : ℕ) (w t : List ℕ) → every is_label_byte (b ∷ w) ≡ true → is_label_byte b ≡ true → StrayFirst (symbols ((b ∷ w) ++ apostrophe ∷ t))
unfolding open_after
plain-stray b w t e h =
    stray-is (run-taken [] (b ∷ w) (apostrophe ∷ t) (plain-run (b ∷ w) (every-label (b ∷ w) e)) ∙ run-taken (b ∷ w) (apostrophe ∷ []) t (quote-in (open_after false (b ∷ w)), tt))
    (run-stray b (w ++ apostrophe ∷ []) t (λ x. plain-not b w x h))

-- ---- in quotes

-- outside quotes stands a byte that is no quote
quoted-past : (q : Bool) (w : List ℕ) (b : ℕ) (x : List ℕ) → open_after q w ≡ false → eqb b apostrophe ≡ false → is_quoted q ((w ++ b ∷ []) ++ x) ≡ false
unfolding is_quoted open_after
quoted-past q [] b x c n = ap (λ (p : Bool). (eqb b apostrophe || (p && is_quoted_byte b)) && is_quoted (turned p b) x) c ∙ ap (λ (p : Bool). (p || false) && is_quoted (turned false b) x) n
quoted-past q (d ∷ w) b x c n = and-false (eqb d apostrophe || (q && is_quoted_byte d)) (quoted-past (turned q d) w b x c n)
  where
    and-false : (a : Bool) {p : Bool} → p ≡ false → a && p ≡ false
    and-false true e = e
    and-false false e = refl

label-past : (w : List ℕ) (b : ℕ) (x : List ℕ) → open_after true w ≡ false → eqb b apostrophe ≡ false → is_label (apostrophe ∷ ((w ++ b ∷ []) ++ x)) ≡ false
unfolding is_label
label-past w b x c n = ap (λ (p : Bool). leb 2 (length ((w ++ b ∷ []) ++ x)) && p) (quoted-past true w b x c n) ∙ none (leb 2 (length ((w ++ b ∷ []) ++ x)))
  where
    none : (a : Bool) → a && false ≡ false
    none true = refl
    none false = refl

-- a run in quotes is one run
quoted-in : (q : Bool) (s : List ℕ) → InRun q (quoted_run q s)
unfolding quoted_run kind_in
quoted-in q [] = tt
quoted-in q (b ∷ s) = go (q || eqb b apostrophe) refl (quoted-in (turned q b) s)
  where
    head : (p : Bool) → p || eqb b apostrophe ≡ true → kind_in p b ≡ label
    head true e = refl
    head false e = ap kind (eqb-true b apostrophe e) ∙ quote-kind

    go : (t : Bool) → q || eqb b apostrophe ≡ t → InRun (turned q b) (quoted_run (turned q b) s) → InRun q (if t then b ∷ quoted_run (turned q b) s else [])
    go true e r = (head q e, r)
    go false e r = tt

quoted-symbols : (s : List ℕ) → symbols s ≡ symbols_after (quoted_run false s) (behind_quoted false s)
unfolding open_after
quoted-symbols s = ap symbols (sym (quoted-join false s)) ∙ run-taken [] (quoted_run false s) (behind_quoted false s) (quoted-in false s)

-- behind it stands nothing; or no quote, and quotes are closed
Stops : Bool → List ℕ → List ℕ → Type 0
Stops q v t = (t ≡ []) ⊎ ((b : ℕ) × (r : List ℕ) × (t ≡ b ∷ r) × (eqb b apostrophe ≡ false) × (open_after q v ≡ false))

quoted-stops : (q : Bool) (s : List ℕ) → Stops q (quoted_run q s) (behind_quoted q s)
unfolding Stops quoted_run behind_quoted open_after
quoted-stops q [] = inl refl
quoted-stops q (b ∷ s) = go (q || eqb b apostrophe) refl (quoted-stops (turned q b) s)
  where
    go : (t : Bool) → q || eqb b apostrophe ≡ t → Stops (turned q b) (quoted_run (turned q b) s) (behind_quoted (turned q b) s)
        → Stops q (if t then b ∷ quoted_run (turned q b) s else []) (if t then behind_quoted (turned q b) s else b ∷ s)
    go true e r = r
    go false e r = inr (b, s, refl, or-rest q (eqb b apostrophe) e, or-none q (eqb b apostrophe) e)

module _ (w : List ℕ) where
  -- a run in quotes with a label byte behind it
  byte-stray : (b : ℕ) (t : List ℕ) → open_after false (apostrophe ∷ w) ≡ false → eqb b apostrophe ≡ false → kind b ≡ label → StrayFirst (symbols_after (apostrophe ∷ w) (b ∷ t))
  unfolding by_kind kind_in open_after turned
  byte-stray b t c n k =
      stray-is (symbols-cons (apostrophe ∷ w) b t ∙ ap (λ (q : Bool). by_kind (kind_in q b) (apostrophe ∷ w) b t) c ∙ ap (λ (x : Kind). by_kind x (apostrophe ∷ w) b t) k)
      (run-stray apostrophe (w ++ b ∷ []) t (λ x. label-past w b x c n))

  -- one that is no label
  label-stray : (t : List ℕ) → is_label (apostrophe ∷ w) ≡ false → Stops false (apostrophe ∷ w) t → StrayFirst (symbols_after (apostrophe ∷ w) t)
  unfolding Stops symbols_after by_kind kind_in
  label-stray t n (inl e) = stray-is (ap (symbols_after (apostrophe ∷ w)) e) (ended-stray apostrophe w [] n)
  label-stray t n (inr (b, r, e, o, c)) = stray-is (ap (symbols_after (apostrophe ∷ w)) e) (go (kind b) refl)
    where
      by : (k : Kind) → kind b ≡ k → symbols_after (apostrophe ∷ w) (b ∷ r) ≡ by_kind k (apostrophe ∷ w) b r
      by k f = symbols-cons (apostrophe ∷ w) b r ∙ ap (λ (q : Bool). by_kind (kind_in q b) (apostrophe ∷ w) b r) c ∙ ap (λ (x : Kind). by_kind x (apostrophe ∷ w) b r) f

      go : (k : Kind) → kind b ≡ k → StrayFirst (symbols_after (apostrophe ∷ w) (b ∷ r))
      go blank f = stray-is (by blank f) (ended-stray apostrophe w (symbols r) n)
      go label f = byte-stray b r c o f
      go (mark m) f = stray-is (by (mark m) f) (ended-stray apostrophe w (m ∷ symbols r) n)

-- ---- what `label_end` answers

pub byte-stands : (s : List ℕ) (e x : ℕ) → has_byte s e x ≡ true → (e < length s) × (get_or s e 0 ≡ x)
unfolding has_byte
byte-stands s e x = go (ltb e (length s)) refl
  where
    go : (t : Bool) → ltb e (length s) ≡ t → (if t then eqb (get_or s e 0) x else false) ≡ true → (e < length s) × (get_or s e 0 ≡ x)
    go true l q = (ltb-true e (length s) l, eqb-true (get_or s e 0) x q)
    go false l q = absurd (true≢false (sym q))

pub quote-there : (s : List ℕ) (e : ℕ) → has_byte s e apostrophe ≡ true → (e < length s) × (get_or s e 0 ≡ apostrophe)
quote-there s e = byte-stands s e apostrophe

-- the byte x, which is neither a label byte nor an apostrophe
pub other-there : (s : List ℕ) (e x : ℕ) → has_byte s e x ≡ true → is_label_byte x ≡ false → eqb x apostrophe ≡ false → (has_label_byte s e ≡ false) × (has_byte s e apostrophe ≡ false)
unfolding has_byte has_label_byte
other-there s e x h n m =
    let p = byte-stands s e x h in
    let l : ltb e (length s) ≡ true = lt-ltb e (length s) p.0 in (
      ap (λ (t : Bool). if t then is_label_byte (get_or s e 0) else false) l ∙ ap is_label_byte p.1 ∙ n,
      ap (λ (t : Bool). if t then eqb (get_or s e 0) apostrophe else false) l ∙ ap (λ (y : ℕ). eqb y apostrophe) p.1 ∙ m,
    )

module _ (s : List ℕ) (r : ℕ) where
  pub label-there : has_label_byte s r ≡ true → (r < length s) × (is_label_byte (get_or s r 0) ≡ true)
  unfolding has_label_byte
  label-there = go (ltb r (length s)) refl
    where
      go : (t : Bool) → ltb r (length s) ≡ t → (if t then is_label_byte (get_or s r 0) else false) ≡ true → (r < length s) × (is_label_byte (get_or s r 0) ≡ true)
      go true l e = (ltb-true r (length s) l, e)
      go false l e = absurd (true≢false (sym e))

  pub no-label-there : has_label_byte s r ≡ false → r < length s → is_label_byte (get_or s r 0) ≡ false
  unfolding has_label_byte
  no-label-there e h = sym (ap (λ (t : Bool). if t then is_label_byte (get_or s r 0) else false) (lt-ltb r (length s) h)) ∙ e

module _ (s : List ℕ) (i : ℕ) where
  no-quote-at : (e : ℕ) → has_byte s e apostrophe ≡ false → e < length s → eqb (get_or s e 0) apostrophe ≡ false
  unfolding has_byte
  no-quote-at e n h = sym (ap (λ (t : Bool). if t then eqb (get_or s e 0) apostrophe else false) (lt-ltb e (length s) h)) ∙ n

  -- neither a label byte nor an apostrophe
  not-label : (e : ℕ) → (e < length s → is_label_byte (get_or s e 0) ≡ false) → (e < length s → eqb (get_or s e 0) apostrophe ≡ false) → kind_at s e ≡ 1 → ⊥
  not-label e f g k =
      let h : e < length s = there s e 1 k (omega arith) in
      let t : is_label_byte (get_or s e 0) || eqb (get_or s e 0) apostrophe ≡ true = kind-label (get_or s e 0) (sym (kind-there s e h) ∙ k) in
      true≢false (sym t ∙ simp (f h, g h))

  pub run-stops : (e : ℕ) → RunEnd s i e → has_byte s e apostrophe ≡ false → kind_at s e ≡ 1 → ⊥
  run-stops e w n = not-label e w.stop (no-quote-at e n)

  pub run-label : (e : ℕ) → RunEnd s i e → i < e → is_label (slice i e s) ≡ true
  run-label e w h =
      plain_label (slice i e s) (omega (arith, length-slice i e s w.within)) (every-slice is_label_byte i e s w.past w.within w.each)

  run-begins : (e : ℕ) → RunEnd s i e → i < e → kind_at s i ≡ 1
  run-begins e w h = kind-there s i (omega (arith, w.within)) ∙ ap kind_no (label-kind (get_or s i 0) (w.each i (omega arith) h))

  pub end-plain : (e : ℕ) → RunEnd s i e → has_byte s e apostrophe ≡ false → LabelEnd s i e
  end-plain e w n = record {
    past = w.past;
    good = λ h l. (run-begins e w h, run-label e w h, token-at s i e w.past l (run-label e w h) (run-stops e w n), run-stops e w n);
    absent = λ z. subst (λ (x : ℕ). kind_at s x ≡ 1 → ⊥) (sym z) (run-stops e w n);
    fault = λ h. absurd (omega (arith, w.within));
  }

  end-fault : i < length s → kind_at s i ≡ 1 → StrayFirst (symbols_at s i) → LabelEnd s i (length s + 1)
  end-fault h k p = record {
    past = omega arith;
    good = λ g l. absurd (omega arith);
    absent = λ z. absurd (omega arith);
    fault = λ l. (refl, k, p.0, p.1);
  }

  pub run-odd : (e : ℕ) → RunEnd s i e → i < e → e < length s → get_or s e 0 ≡ apostrophe → StrayFirst (symbols_at s i)
  run-odd e w h l q =
      let u : slice i e s ≡ get_or s i 0 ∷ slice (suc i) e s = slice-cons i e s 0 h w.within in
      let d : drop e s ≡ apostrophe ∷ drop (suc e) s = drop-cons s e 0 l ∙ ap (λ (x : ℕ). x ∷ drop (suc e) s) q in
      stray-is (ap symbols (slice-join s i e w.past w.within ∙ ap₂ (λ (x y : List ℕ). x ++ y) u d))
      (plain-stray (get_or s i 0) (slice (suc i) e s) (drop (suc e) s) (ap (every is_label_byte) (sym u) ∙ every-slice is_label_byte i e s w.past w.within w.each) (w.each i (omega arith) h))

  pub end-odd : (e : ℕ) → RunEnd s i e → has_byte s e apostrophe ≡ true → i < e → LabelEnd s i (length s + 1)
  end-odd e w q h =
      let p = quote-there s e q in
      end-fault (omega (arith, p.0)) (run-begins e w h) (run-odd e w h p.0 p.1)

  -- no label byte, but a quote at i
  pub quote-at : (e : ℕ) → RunEnd s i e → has_byte s e apostrophe ≡ true → e ≤ i → (i < length s) × (get_or s i 0 ≡ apostrophe)
  quote-at e w q h = let z : e ≡ i = omega (arith, w.past) in subst (λ (x : ℕ). (x < length s) × (get_or s x 0 ≡ apostrophe)) z (quote-there s e q)

  module _ (here : i < length s) (quote : get_or s i 0 ≡ apostrophe) where
    quote-begins : kind_at s i ≡ 1
    quote-begins = kind-there s i here ∙ ap (λ (x : ℕ). kind_no (kind x)) quote ∙ ap kind_no quote-kind

    pub quote-first : quoted_run false (drop i s) ≡ apostrophe ∷ quoted_run true (drop (suc i) s)
    unfolding quoted_run turned
    quote-first = ap (quoted_run false) (drop-cons s i 0 here ∙ ap (λ (x : ℕ). x ∷ drop (suc i) s) quote)

    from_first : symbols_at s i ≡ symbols_after (apostrophe ∷ quoted_run true (drop (suc i) s)) (behind_quoted false (drop i s))
    from_first = quoted-symbols (drop i s) ∙ ap (λ (v : List ℕ). symbols_after v (behind_quoted false (drop i s))) quote-first

    stops_first : Stops false (apostrophe ∷ quoted_run true (drop (suc i) s)) (behind_quoted false (drop i s))
    stops_first = subst (λ (v : List ℕ). Stops false v (behind_quoted false (drop i s))) quote-first (quoted-stops false (drop i s))

    quoted-odd : is_label (quoted_run false (drop i s)) ≡ false → StrayFirst (symbols_at s i)
    quoted-odd n = stray-is from_first (label-stray (quoted_run true (drop (suc i) s)) (behind_quoted false (drop i s)) (ap is_label (sym quote-first) ∙ n) stops_first)

    module _ (r : ℕ) (w : QuotedEnd s i r) where
      -- a label byte behind it
      pub end-followed : has_label_byte s r ≡ true → LabelEnd s i (length s + 1)
      end-followed e =
          let p = label-there s r e in
          let g = w.good (omega (arith, p.0)) in
          let b = get_or s r 0 in
          let c : open_after false (apostrophe ∷ quoted_run true (drop (suc i) s)) ≡ false = ap (open_after false) (sym quote-first ∙ g.2) ∙ label-closed (slice i r s) g.1 in
          end-fault here quote-begins
          (stray-is (from_first ∙ ap (symbols_after (apostrophe ∷ quoted_run true (drop (suc i) s))) (g.3 ∙ drop-cons s r 0 p.0))
          (byte-stray (quoted_run true (drop (suc i) s)) b (drop (suc r) s) c (label-other b apostrophe p.1 quote-no-label) (label-kind b p.1)))

      no-quote-behind : r ≤ length s → r < length s → eqb (get_or s r 0) apostrophe ≡ false
      unfolding Stops
      no-quote-behind l h = go stops_first
        where
          d : behind_quoted false (drop i s) ≡ get_or s r 0 ∷ drop (suc r) s
          d = (w.good l).3 ∙ drop-cons s r 0 h

          go : Stops false (apostrophe ∷ quoted_run true (drop (suc i) s)) (behind_quoted false (drop i s)) → eqb (get_or s r 0) apostrophe ≡ false
          go (inl e) = absurd (omega (arith, ap length (sym d ∙ e)))
          go (inr (b, t, e, n, c)) = ap (λ (v : List ℕ). eqb (get_or v 0 0) apostrophe) (sym d ∙ e) ∙ n

      pub end-quoted : has_label_byte s r ≡ false → LabelEnd s i r
      end-quoted e = go (less-or-not (length s) r)
        where
          go : (length s < r) ⊎ (r ≤ length s) → LabelEnd s i r
          go (inl l) = subst (LabelEnd s i) (sym (w.fault l).0) (end-fault here quote-begins (quoted-odd (w.fault l).1))
          go (inr l) =
              let g = w.good l in
              let n : kind_at s r ≡ 1 → ⊥ = not-label r (no-label-there s r e) (no-quote-behind l) in
              record {
                past = omega (arith, g.0);
                good = λ h m. (quote-begins, g.1, token-at s i r (omega (arith, g.0)) l g.1 n, n);
                absent = λ z. absurd (omega (arith, g.0));
                fault = λ h. absurd (omega arith);
              }
