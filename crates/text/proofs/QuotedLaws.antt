-- The loop of `quoted_end`: from the quote at i on, byte by byte.
--
--   Quoted s i r q     the bytes from i up to r are of one run, each as a label may have it; q: whether quotes are open at r
use Prim.Native.Nat.{ℕ, suc, ◌+◌, ◌-◌, ◌≤◌, ◌<◌}
use native.Mathlib.Numerals.{add-one}
use native.Mathlib.Omega.{arith}
use mathlib.Core.Path.{◌≡◌, refl, ap, sym, ◌∙◌, subst}
use mathlib.Core.Bool.{Bool, true, false, ◌&&◌, ◌||◌, not, true≢false}
use mathlib.Core.List.{List, [], ◌∷◌, ◌++◌, append_assoc, append-nil}
use lib.Dec.{eqb, ltb, leb}
use lib.ListN.{length, get_or, drop, drop_of_length-le}
use lib.Seq.{slice, slice_empty, length-slice, drop-cons}
use borrow.Author.Tests.{leb-true, le-leb, lt-leb, lt-ltb, ltb-true, ltb-false}
use Rattle.std.specs.Prelude.{if◌then◌else◌}
use Rattle.trees.specs.Text.{apostrophe, is_quoted_byte, turned, is_quoted, is_label}
use Rattle.trees.specs.NexusReading.{quoted_run, behind_quoted}
use Rattle.theorems.specs.ListLaws.{if-true, if-false, and-true, same_bool}
use Rattle.theorems.specs.QuoteLaws.{or-none}
use Rattle.text.specs.Read.{has_quoted_byte, QuotedEnd}
use Rattle.text.specs.SliceLaws.{slice-more}
use Rattle.text.proofs.TokenLaws.{quote-first}

-- ---- one byte

module _ (q : Bool) (b : ℕ) (s : List ℕ) where
  run_on : q || eqb b apostrophe ≡ true → quoted_run q (b ∷ s) ≡ b ∷ quoted_run (turned q b) s
  unfolding quoted_run
  run_on e = if-true (b ∷ quoted_run (turned q b) s) [] e

  behind-on : q || eqb b apostrophe ≡ true → behind_quoted q (b ∷ s) ≡ behind_quoted (turned q b) s
  unfolding behind_quoted
  behind-on e = if-true (behind_quoted (turned q b) s) (b ∷ s) e

  run-stop : q || eqb b apostrophe ≡ false → quoted_run q (b ∷ s) ≡ []
  unfolding quoted_run
  run-stop e = if-false (b ∷ quoted_run (turned q b) s) [] e

  behind-stop : q || eqb b apostrophe ≡ false → behind_quoted q (b ∷ s) ≡ b ∷ s
  unfolding behind_quoted
  behind-stop e = if-false (behind_quoted (turned q b) s) (b ∷ s) e

  quoted-on : eqb b apostrophe || (q && is_quoted_byte b) ≡ true → is_quoted q (b ∷ s) ≡ is_quoted (turned q b) s
  unfolding is_quoted
  quoted-on e = ap (λ (t : Bool). t && is_quoted (turned q b) s) e

  quoted-not : eqb b apostrophe || (q && is_quoted_byte b) ≡ false → is_quoted q (b ∷ s) ≡ false
  unfolding is_quoted
  quoted-not e = ap (λ (t : Bool). t && is_quoted (turned q b) s) e

-- what begins with an apostrophe is a label if it has three bytes or more, as in quotes
quote-label : (v w : List ℕ) → v ≡ apostrophe ∷ w → is_label v ≡ leb 3 (length v) && is_quoted false v
unfolding is_label is_quoted turned
quote-label v w e = ap is_label e ∙ ap (λ (t : Bool). t && is_quoted true w) (one_more (length w)) ∙ sym (ap (λ (x : List ℕ). leb 3 (length x) && is_quoted false x) e)
  where
    one_more : (n : ℕ) → leb 2 n ≡ leb 3 (suc n)
    one_more n = same_bool (leb 2 n) (leb 3 (suc n)) (λ f. le-leb 3 (suc n) (omega (arith, leb-true 2 n f))) (λ f. le-leb 2 n (omega (arith, leb-true 3 (suc n) f)))

-- a byte of a label in quotes is of the run
in-run : (q a b : Bool) → a || (q && b) ≡ true → q || a ≡ true
in-run true a b e = refl
in-run false true b e = refl
in-run false false b e = absurd (true≢false (sym e))

and-false : (a b : Bool) → b ≡ false → a && b ≡ false
and-false true b e = e
and-false false b e = refl

pub quoted-there : (s : List ℕ) (r : ℕ) (q : Bool) → has_quoted_byte s r q ≡ true → r < length s
unfolding has_quoted_byte
quoted-there s r q = go (ltb r (length s)) refl
  where
    go : (c : Bool) → ltb r (length s) ≡ c → (if c then eqb (get_or s r 0) apostrophe || (q && is_quoted_byte (get_or s r 0)) else false) ≡ true → r < length s
    go true l f = ltb-true r (length s) l
    go false l f = absurd (true≢false (sym f))

module _ (s : List ℕ) (i : ℕ) where
  pub record Quoted (r : ℕ) (q : Bool) : Type 0 where
    pub past : i ≤ r
    pub within : r ≤ length s
    pub run : quoted_run false (drop i s) ≡ slice i r s ++ quoted_run q (drop r s)
    pub behind : behind_quoted false (drop i s) ≡ behind_quoted q (drop r s)
    pub good : (x : List ℕ) → is_quoted false (slice i r s ++ x) ≡ is_quoted q x

  pub quoted-none : i ≤ length s → Quoted i false
  quoted-none h = record {
    past = omega arith;
    within = h;
    run = ap (λ (v : List ℕ). v ++ quoted_run false (drop i s)) (sym (slice_empty i s));
    behind = refl;
    good = λ x. ap (λ (v : List ℕ). is_quoted false (v ++ x)) (slice_empty i s);
  }

  pub quoted-more : (r : ℕ) (q p : Bool) → Quoted r q → has_quoted_byte s r q ≡ true → p ≡ turned q (get_or s r 0) → Quoted (r + 1) p
  unfolding has_quoted_byte
  quoted-more r q p w t e =
      let h : r < length s = quoted-there s r q t in
      let b : ℕ = get_or s r 0 in
      let f : eqb b apostrophe || (q && is_quoted_byte b) ≡ true = sym (if-true (eqb b apostrophe || (q && is_quoted_byte b)) false (lt-ltb r (length s) h)) ∙ t in
      let g : q || eqb b apostrophe ≡ true = in-run q (eqb b apostrophe) (is_quoted_byte b) f in
      let d : drop r s ≡ b ∷ drop (r + 1) s = drop-cons s r 0 h ∙ ap (λ (n : ℕ). b ∷ drop n s) (sym (add-one r)) in
      let join : (x : List ℕ) → slice i (r + 1) s ++ x ≡ slice i r s ++ (b ∷ x) = λ x. ap (λ (v : List ℕ). v ++ x) (slice-more s i r w.past h) ∙ append_assoc (slice i r s) (b ∷ []) x in
      subst (Quoted (r + 1)) (sym e) (record {
        past = omega (arith, w.past);
        within = omega arith;
        run = w.run ∙ ap (λ (v : List ℕ). slice i r s ++ quoted_run q v) d ∙ ap (λ (v : List ℕ). slice i r s ++ v) (run_on q b (drop (r + 1) s) g) ∙ sym (join (quoted_run (turned q b) (drop (r + 1) s)));
        behind = w.behind ∙ ap (behind_quoted q) d ∙ behind-on q b (drop (r + 1) s) g;
        good = λ x. ap (is_quoted false) (join x) ∙ w.good (b ∷ x) ∙ quoted-on q b x f;
      })

  module _ (here : i < length s) (quote : get_or s i 0 ≡ apostrophe) where
    -- the whole run begins with the quote
    label_is : is_label (quoted_run false (drop i s)) ≡ leb 3 (length (quoted_run false (drop i s))) && is_quoted false (quoted_run false (drop i s))
    label_is = quote-label (quoted_run false (drop i s)) (quoted_run true (drop (suc i) s)) (quote-first s i here quote)

    fault-at : is_quoted false (quoted_run false (drop i s)) ≡ false → QuotedEnd s i (length s + 1)
    fault-at e = record { good = λ h. absurd (omega arith); fault = λ h. (refl, label_is ∙ and-false (leb 3 (length (quoted_run false (drop i s)))) (is_quoted false (quoted_run false (drop i s))) e) }

    module _ (r : ℕ) (q : Bool) (w : Quoted r q) (stop : has_quoted_byte s r q ≡ false) where
      -- open quotes end with the text, or at a byte that may not stand in them
      pub quoted-open : q ≡ true → QuotedEnd s i (length s + 1)
      unfolding has_quoted_byte quoted_run is_quoted
      quoted-open e = fault-at (ap (is_quoted false) w.run ∙ w.good (quoted_run q (drop r s)) ∙ ap (λ (x : Bool). is_quoted x (quoted_run x (drop r s))) e ∙ go (ltb r (length s)) refl stop)
        where
          go : (c : Bool) → ltb r (length s) ≡ c → (if c then eqb (get_or s r 0) apostrophe || (q && is_quoted_byte (get_or s r 0)) else false) ≡ false → is_quoted true (quoted_run true (drop r s)) ≡ false
          go true l f =
              ap (λ (v : List ℕ). is_quoted true (quoted_run true v)) (drop-cons s r 0 (ltb-true r (length s) l))
              ∙ quoted-not true (get_or s r 0) (quoted_run (turned true (get_or s r 0)) (drop (suc r) s)) (ap (λ (x : Bool). eqb (get_or s r 0) apostrophe || (x && is_quoted_byte (get_or s r 0))) (sym e) ∙ f)
          go false l f = ap (λ (v : List ℕ). is_quoted true (quoted_run true v)) (drop_of_length-le s (ltb-false r (length s) l))

      module _ (shut : q ≡ false) where
        stopped : (quoted_run q (drop r s) ≡ []) × (behind_quoted q (drop r s) ≡ drop r s)
        unfolding has_quoted_byte quoted_run behind_quoted
        stopped = go (ltb r (length s)) refl stop
          where
            go : (c : Bool) → ltb r (length s) ≡ c → (if c then eqb (get_or s r 0) apostrophe || (q && is_quoted_byte (get_or s r 0)) else false) ≡ false
                → (quoted_run q (drop r s) ≡ []) × (behind_quoted q (drop r s) ≡ drop r s)
            go true l f =
                let d : drop r s ≡ get_or s r 0 ∷ drop (suc r) s = drop-cons s r 0 (ltb-true r (length s) l) in
                let g : q || eqb (get_or s r 0) apostrophe ≡ false = ap (λ (x : Bool). x || eqb (get_or s r 0) apostrophe) shut ∙ or-none (eqb (get_or s r 0) apostrophe) (q && is_quoted_byte (get_or s r 0)) f in
                (ap (quoted_run q) d ∙ run-stop q (get_or s r 0) (drop (suc r) s) g, ap (behind_quoted q) d ∙ behind-stop q (get_or s r 0) (drop (suc r) s) g ∙ sym d)
            go false l f = let d = drop_of_length-le s (ltb-false r (length s) l) in (ap (quoted_run q) d, ap (behind_quoted q) d ∙ sym d)

        whole : quoted_run false (drop i s) ≡ slice i r s
        whole = w.run ∙ ap (λ (x : List ℕ). slice i r s ++ x) stopped.0 ∙ append-nil (slice i r s)

        closed : is_quoted false (slice i r s) ≡ true
        unfolding is_quoted
        closed = ap (is_quoted false) (sym (append-nil (slice i r s))) ∙ w.good [] ∙ ap not shut

        size : length (quoted_run false (drop i s)) ≡ r - i
        size = ap length whole ∙ length-slice i r s w.within

        pub quoted-short : r - i < 3 → QuotedEnd s i (length s + 1)
        quoted-short h = record {
          good = λ l. absurd (omega arith);
          fault = λ l. (refl, label_is ∙ ap (λ (x : Bool). x && is_quoted false (quoted_run false (drop i s))) (lt-leb 3 (length (quoted_run false (drop i s))) (subst (λ (x : ℕ). x < 3) (sym size) h)));
        }

        pub quoted-whole : 3 ≤ r - i → QuotedEnd s i r
        quoted-whole h = record {
          good = λ l. (
            omega arith,
            ap is_label (sym whole) ∙ label_is ∙ and-true (le-leb 3 (length (quoted_run false (drop i s))) (subst (λ (x : ℕ). 3 ≤ x) (sym size) h)) (ap (is_quoted false) whole ∙ closed),
            whole,
            w.behind ∙ stopped.1,
          );
          fault = λ l. absurd (omega (arith, w.within));
        }
