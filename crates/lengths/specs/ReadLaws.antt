-- The laws of the readers. Assumes nothing.
--
--   no_label, end-digit                          what does not stand at the end of a token
--   Got, got-none, got-more, got-stop, got-all   the loop of `read_digits`
--   digits-to                                    digits end before a token does
--   sign-past, sign-none, sign-end               a sign or none
--   minus-at, minus-none                         a minus sign or none
--   decimal-whole, decimal-point                 no point, a point
--   e-there, exponent-none, exponent-some        no exponent, one
--   length_taken                                 all together
use Rattle.std.specs.Prelude.{ℕ, suc, ◌+◌, ◌-◌, ◌*◌, ◌^◌, ◌≤◌, ◌<◌, ◌≡◌, ◌⊎◌, Bool, List, [], ◌∷◌, ◌++◌, leb, eqb, pos, ◌-ℤ◌, get_or, if◌then◌else◌}
use Rattle.std.proofs.Common.{eq-or-lt_of_le, add-one, arith, ap, ◌∙◌, inl, inr, true≢false, append-nil, length-append, le-leb, leb-true, eq-eqb, ne_eqb, eqb-true, lt-ltb, ltb-true}
use Rattle.std.proofs.Math.Path.{refl, sym}
use Rattle.std.proofs.Math.Bool.{true, false}
use Rattle.std.proofs.Math.Dec.{ltb}
use Rattle.std.proofs.Math.ListN.{length}
use Rattle.std.proofs.Math.Seq.{slice, slice_empty, slice-cons, length-slice}
use Rattle.std.proofs.lemmas.Bool.{lt-leb}
use Rattle.trees.specs.Plain.{every, member, bytes}
use Rattle.trees.specs.Text.{is_label_byte}
use Rattle.trees.specs.Length.{is_digit, is_sign, is_point, is_e, unsigned, without_point, before_e, from_e, is_exponent}
use Rattle.trees.specs.Value.{number_from, is_minus, with_sign, exponent, measured, length_of}
use Rattle.theorems.specs.ListLaws.{and_left, and_right, or_cases, less-or-not}
use Rattle.theorems.specs.NameLaws.{test-fails}
use Rattle.text.specs.Read.{RunEnd}
use Rattle.text.specs.SliceLaws.{slice-parts, slice-more}
use Rattle.lengths.specs.Near.{Near, exactly}
use Rattle.lengths.specs.NearLaws.{near-measured, near-power}
use Rattle.lengths.specs.PartLaws.{number_append, every_append, every-behind, first-e, sign-is, Stops, NoPoint, Parted, whole-parted, point-parted, length-unsigned, length_digits, length-exponent, exponent-digits, all_digits}
use Rattle.lengths.specs.Read.{TokenEnd, has_e, MinusAt, Unsigned, SignPast, Digits, DecimalRead, DecimalPast, ExponentRead, ExponentPast, LengthStands}
use Rattle.lengths.specs.declared.Run.{Run}
use Rattle.lengths.specs.declared.Decimal.{Decimal}
use Rattle.lengths.specs.declared.Exponent.{Exponent}

-- ---- what does not stand at the end of a token

digit-label : (b : ℕ) → is_digit b ≡ true → is_label_byte b ≡ true
unfolding is_digit is_label_byte member bytes
digit-label b h =
    let l : 48 ≤ b = leb-true 48 b (and_left (leb 48 b) (leb b 57) h) in
    let m : b ≤ 57 = leb-true b 57 (and_right (leb 48 b) (leb b 57) h) in
    simp (le-leb 33 b (omega arith), le-leb b 126 (omega arith), ne_eqb b 40 (λ e. omega arith), ne_eqb b 41 (λ e. omega arith), ne_eqb b 91 (λ e. omega arith), ne_eqb b 93 (λ e. omega arith), ne_eqb b 39 (λ e. omega arith), ne_eqb b 58 (λ e. omega arith), ne_eqb b 59 (λ e. omega arith), ne_eqb b 44 (λ e. omega arith))

sign-label : (b : ℕ) → is_sign b ≡ true → is_label_byte b ≡ true
unfolding is_label_byte
sign-label b h = elim (sign-is b h) [ inl e ↦ rw e | inr e ↦ rw e ]

e-label : (b : ℕ) → is_e b ≡ true → is_label_byte b ≡ true
unfolding is_e is_label_byte
e-label b h = elim (or_cases (eqb b 101) (eqb b 69) h) [ inl e ↦ rw (eqb-true b 101 e) | inr e ↦ rw (eqb-true b 69 e) ]

point-label : (b : ℕ) → b ≡ 46 → is_label_byte b ≡ true
unfolding is_label_byte
point-label b h = rw h

module _ (s : List ℕ) (e : ℕ) (t : TokenEnd s e) (h : e < length s) where
  no_label : is_label_byte (get_or s e 0) ≡ true → ⊥
  no_label k = true≢false (sym k ∙ t.stop h)

  end-digit : is_digit (get_or s e 0) ≡ false
  end-digit = test-fails (is_digit (get_or s e 0)) (λ k. no_label (digit-label (get_or s e 0) k))

-- ---- a digit or none

pub is_digit_lem : (b : ℕ) → 48 ≤ b → b ≤ 57 → is_digit b ≡ true
unfolding is_digit
is_digit_lem b h k = rw (le-leb 48 b h, le-leb b 57 k)

pub below-digit : (b : ℕ) → b < 48 → is_digit b ≡ false
unfolding is_digit
below-digit b h = rw (lt-leb 48 b h)

pub above-digit : (b : ℕ) → 57 < b → is_digit b ≡ false
unfolding is_digit
above-digit b h = rw (le-leb 48 b (omega arith), lt-leb b 57 h)

one-digit : (b : ℕ) → is_digit b ≡ true → every is_digit (b ∷ []) ≡ true
unfolding every
one-digit b h = rw h

number-one : (n b d : ℕ) → d ≡ b - 48 → number_from n (b ∷ []) ≡ 10 * n + d
unfolding number_from
number-one n b d h = rw h

-- ---- a run of digits

module _ (s : List ℕ) (from e n : ℕ) where
  pub record Got (m i : ℕ) : Type 0 where
    pub past : from ≤ i
    pub within : i ≤ e
    pub all : every is_digit (slice from i s) ≡ true
    pub near : (k : ℕ) → Near k n → Near (number_from k (slice from i s)) m

  pub got-none : from ≤ e → Got n from
  unfolding every number_from
  got-none h = record { past = omega arith; within = h; all = rw (slice_empty from s); near = λ k x. rw (slice_empty from s) x }

  pub got-more : (m m' i b d : ℕ) → Got m i → i < e → e ≤ length s → b ≡ get_or s i 0 → 48 ≤ b → b ≤ 57 → d ≡ b - 48 → ((k : ℕ) → Near k m → Near (10 * k + d) m') → Got m' (i + 1)
  got-more m m' i b d g h l x p q z f =
      let c = get_or s i 0 in
      let y : slice from (i + 1) s ≡ slice from i s ++ (c ∷ []) = slice-more s from i g.past (omega arith) in
      let one : every is_digit (c ∷ []) ≡ true = one-digit c (is_digit_lem c (omega arith) (omega arith)) in
      let u : d ≡ c - 48 = omega arith in
      record {
        past = omega (arith, g.past);
        within = omega arith;
        all = rw y (every_append (slice from i s) (c ∷ []) g.all one);
        near = λ k r. rw (y, number_append k (slice from i s) (c ∷ []), number-one (number_from k (slice from i s)) c d u) (f (number_from k (slice from i s)) (g.near k r));
      }

  pub got-stop : (m i b : ℕ) → Got m i → b ≡ get_or s i 0 → is_digit b ≡ false → Digits s from e n (record { n = m; at = i })
  got-stop m i b g x h = record { past = g.past; within = g.within; all = g.all; stop = λ l. rw (← x) h; near = g.near }

  pub got-all : (m i : ℕ) → Got m i → e ≤ i → Digits s from e n (record { n = m; at = i })
  got-all m i g h = record { past = g.past; within = g.within; all = g.all; stop = λ l. absurd (omega arith); near = g.near }

-- digits end before a token does
pub digits-to : (s : List ℕ) (from e n : ℕ) (r : Run) → Digits s from (length s) n r → from ≤ e → TokenEnd s e → Digits s from e n r
unfolding every
digits-to s from e n r g h t = record { past = g.past; within = go (less-or-not e r.at); all = g.all; stop = λ l. g.stop (omega (arith, t.within)); near = g.near }
  where
    over : e < r.at → is_digit (get_or s e 0) ≡ true
    over l =
        let y : slice from r.at s ≡ slice from e s ++ slice e r.at s = slice-parts s from e h r.at (omega arith) g.within in
        let z : slice e r.at s ≡ get_or s e 0 ∷ slice (suc e) r.at s = slice-cons e r.at s 0 l g.within in
        and_left (is_digit (get_or s e 0)) (every is_digit (slice (suc e) r.at s)) (ap (every is_digit) (sym z) ∙ every-behind (slice from e s) (slice e r.at s) (ap (every is_digit) (sym y) ∙ g.all))

    go : (e < r.at) ⊎ (r.at ≤ e) → r.at ≤ e
    go (inl l) = absurd (true≢false (sym (over l) ∙ end-digit s e t (omega (arith, g.within))))
    go (inr l) = l

-- ---- a sign or none

unsigned-past : (s : List ℕ) (i e : ℕ) → i < e → e ≤ length s → is_sign (get_or s i 0) ≡ true → Unsigned s i e (i + 1)
unfolding unsigned
unsigned-past s i e h l k = record { past = omega arith; within = omega arith; bytes = rw (slice-cons i e s 0 h l, k, ← add-one i) }

unsigned-none : (s : List ℕ) (i e : ℕ) → i < e → e ≤ length s → is_sign (get_or s i 0) ≡ false → Unsigned s i e i
unfolding unsigned
unsigned-none s i e h l k = record { past = omega arith; within = omega arith; bytes = rw (slice-cons i e s 0 h l, k) }

unsigned-end : (s : List ℕ) (i e : ℕ) → i ≤ e → e ≤ i → Unsigned s i e i
unfolding unsigned
unsigned-end s i e h k =
    let z : i ≡ e = omega arith in
    record { past = omega arith; within = omega arith; bytes = rw (z, slice_empty e s) }

module _ (s : List ℕ) (i : ℕ) where
  pub sign-past : i < length s → is_sign (get_or s i 0) ≡ true → SignPast s i (i + 1)
  sign-past h k = record { within = omega arith; read = λ e l t. go e t (eq-or-lt_of_le l) }
    where
      go : (e : ℕ) → TokenEnd s e → (i ≡ e) ⊎ (i < e) → Unsigned s i e (i + 1)
      go e t (inl z) = absurd (no_label s e t (omega arith) (rw (← z) (sign-label (get_or s i 0) k)))
      go e t (inr l) = unsigned-past s i e l t.within k

  pub sign-none : i < length s → is_sign (get_or s i 0) ≡ false → SignPast s i i
  sign-none h k = record { within = omega arith; read = λ e l t. go e t (eq-or-lt_of_le l) }
    where
      go : (e : ℕ) → TokenEnd s e → (i ≡ e) ⊎ (i < e) → Unsigned s i e i
      go e t (inl z) = unsigned-end s i e (omega arith) (omega arith)
      go e t (inr l) = unsigned-none s i e l t.within k

  pub sign-end : i ≤ length s → length s ≤ i → SignPast s i i
  sign-end h k = record { within = h; read = λ e l t. unsigned-end s i e l (omega (arith, t.within)) }

pub minus-sign : (b : ℕ) → b ≡ 45 → is_sign b ≡ true
unfolding is_sign
minus-sign b h = rw (ne_eqb b 43 (λ e. omega arith), eq-eqb b 45 h)

pub plus-sign : (b : ℕ) → b ≡ 43 → is_sign b ≡ true
unfolding is_sign
plus-sign b h = rw (eq-eqb b 43 h)

pub no_sign : (b : ℕ) → (b ≡ 45 → ⊥) → (b ≡ 43 → ⊥) → is_sign b ≡ false
unfolding is_sign
no_sign b f g = rw (ne_eqb b 43 g, ne_eqb b 45 f)

module _ (s : List ℕ) (i : ℕ) where
  minus-first : (e : ℕ) → i < e → e ≤ length s → is_minus (slice i e s) ≡ eqb (get_or s i 0) 45
  unfolding is_minus
  minus-first e h l = rw (slice-cons i e s 0 h l)

  minus-empty : (e : ℕ) → i ≡ e → is_minus (slice i e s) ≡ false
  unfolding is_minus
  minus-empty e z = rw (z, slice_empty e s)

  pub minus-at : i < length s → MinusAt s i (eqb (get_or s i 0) 45)
  minus-at h e l t = go (eq-or-lt_of_le l)
    where
      go : (i ≡ e) ⊎ (i < e) → eqb (get_or s i 0) 45 ≡ is_minus (slice i e s)
      go (inl z) = ne_eqb (get_or s i 0) 45 (λ q. no_label s e t (omega arith) (rw (← z) (sign-label (get_or s i 0) (minus-sign (get_or s i 0) q)))) ∙ sym (minus-empty e z)
      go (inr k) = sym (minus-first e k t.within)

  pub minus-none : length s ≤ i → MinusAt s i false
  minus-none h e l t = sym (minus-empty e (omega (arith, t.within)))

-- ---- what stands behind a run of digits

stops_at : (b : ℕ) (r : List ℕ) → is_digit b ≡ false → Stops (b ∷ r)
unfolding Stops
stops_at b r h = h

stops_end : Stops []
unfolding Stops
stops_end = tt

no-point-at : (b : ℕ) (r : List ℕ) → (b ≡ 46 → ⊥) → NoPoint (b ∷ r)
unfolding NoPoint is_point
no-point-at b r h = ne_eqb b 46 h

no-point-end : NoPoint []
unfolding NoPoint
no-point-end = tt

stops : (s : List ℕ) (i e : ℕ) → i ≤ e → e ≤ length s → (i < e → is_digit (get_or s i 0) ≡ false) → Stops (slice i e s)
stops s i e h l f = go (eq-or-lt_of_le h)
  where
    go : (i ≡ e) ⊎ (i < e) → Stops (slice i e s)
    go (inl z) = rw (z, slice_empty e s) stops_end
    go (inr k) = rw (slice-cons i e s 0 k l) (stops_at (get_or s i 0) (slice (suc i) e s) (f k))

no-point : (s : List ℕ) (i e : ℕ) → i ≤ e → e ≤ length s → (i < e → get_or s i 0 ≡ 46 → ⊥) → NoPoint (slice i e s)
no-point s i e h l f = go (eq-or-lt_of_le h)
  where
    go : (i ≡ e) ⊎ (i < e) → NoPoint (slice i e s)
    go (inl z) = rw (z, slice_empty e s) no-point-end
    go (inr k) = rw (slice-cons i e s 0 k l) (no-point-at (get_or s i 0) (slice (suc i) e s) (f k))

-- ---- the digits of a length

whole-read : (s : List ℕ) (from e : ℕ) (w : Run) → e ≤ length s
    → every is_digit (without_point (before_e (slice from e s))) ≡ true → Digits s from e 0 w → (w.at < e → get_or s w.at 0 ≡ 46 → ⊥)
    → DecimalRead s from e (record { n = w.n; behind = 0; at = w.at })
whole-read s from e w l v g f =
    let ds = slice from w.at s in
    let r = slice w.at e s in
    let y : slice from e s ≡ ds ++ r = slice-parts s from w.at g.past e g.within l in
    let p : Parted (ds ++ r) ds [] r = whole-parted ds r g.all (stops s w.at e g.within l g.stop) (no-point s w.at e g.within l f) (rw (← y) v) in
    record {
      past = g.past;
      within = g.within;
      number = rw (y, p.digits, append-nil ds) (g.near 0 (exactly refl));
      behind = rw (y, p.behind);
      rest = rw y p.rest;
    }

point-read : (s : List ℕ) (from e : ℕ) (w q : Run) → e ≤ length s
    → every is_digit (without_point (before_e (slice from e s))) ≡ true → Digits s from e 0 w → w.at < e → get_or s w.at 0 ≡ 46 → Digits s (w.at + 1) e w.n q
    → DecimalRead s from e (record { n = q.n; behind = q.at - (w.at + 1); at = q.at })
point-read s from e w q l v g k z g' =
    let ds = slice from w.at s in
    let fs = slice (w.at + 1) q.at s in
    let r = slice q.at e s in
    let c = get_or s w.at 0 in
    let y : slice from e s ≡ ds ++ (c ∷ (fs ++ r)) =
    slice-parts s from w.at g.past e g.within l
    ∙ ap (λ (x : List ℕ). ds ++ x)
    (slice-cons w.at e s 0 k l ∙ ap (λ (x : List ℕ). c ∷ x) (ap (λ (n : ℕ). slice n e s) (sym (add-one w.at)) ∙ slice-parts s (w.at + 1) q.at g'.past e g'.within l)) in
    let p : Parted (ds ++ (c ∷ (fs ++ r))) ds fs r = point-parted ds fs r c z g.all g'.all (stops s q.at e g'.within l g'.stop) (rw (← y) v) in
    let b' = g'.within in
    record {
      past = omega (arith, g.past, g'.past);
      within = g'.within;
      number = rw (y, p.digits, number_append 0 ds fs) (g'.near (number_from 0 ds) (g.near 0 (exactly refl)));
      behind = rw (y, p.behind) (sym (length-slice (w.at + 1) q.at s (omega arith)));
      rest = rw y p.rest;
    }

module _ (s : List ℕ) (from : ℕ) (w : Run) (g : Digits s from (length s) 0 w) where
  pub decimal-whole : (w.at < length s → get_or s w.at 0 ≡ 46 → ⊥) → DecimalPast s from (record { n = w.n; behind = 0; at = w.at })
  decimal-whole f = record {
    within = g.within;
    few = omega arith;
    read = λ e h t v. whole-read s from e w t.within v (digits-to s from e 0 w g h t) (λ l. f (omega (arith, t.within)));
  }

  pub decimal-point : (q : Run) → w.at < length s → get_or s w.at 0 ≡ 46 → Digits s (w.at + 1) (length s) w.n q → DecimalPast s from (record { n = q.n; behind = q.at - (w.at + 1); at = q.at })
  decimal-point q k z g' = record { within = g'.within; few = omega (arith, g'.within); read = λ e h t v. to e h t v (digits-to s from e 0 w g h t) }
    where
      to : (e : ℕ) → from ≤ e → TokenEnd s e → every is_digit (without_point (before_e (slice from e s))) ≡ true → Digits s from e 0 w
          → DecimalRead s from e (record { n = q.n; behind = q.at - (w.at + 1); at = q.at })
      to e h t v d = go (eq-or-lt_of_le d.within)
        where
          go : (w.at ≡ e) ⊎ (w.at < e) → DecimalRead s from e (record { n = q.n; behind = q.at - (w.at + 1); at = q.at })
          go (inl y) = absurd (no_label s e t (omega arith) (rw (← y) (point-label (get_or s w.at 0) z)))
          go (inr l) = point-read s from e w q t.within v d l z (digits-to s (w.at + 1) e w.n q g' (omega arith) t)

-- ---- the exponent

module _ (s : List ℕ) (i : ℕ) where
  pub e-there : has_e s i ≡ true → (i < length s) × (is_e (get_or s i 0) ≡ true)
  unfolding has_e
  e-there = go (ltb i (length s)) refl
    where
      go : (t : Bool) → ltb i (length s) ≡ t → (if t then is_e (get_or s i 0) else false) ≡ true → (i < length s) × (is_e (get_or s i 0) ≡ true)
      go true l e = (ltb-true i (length s) l, e)
      go false l e = absurd (true≢false (sym e))

  no-e : has_e s i ≡ false → i < length s → is_e (get_or s i 0) ≡ false
  unfolding has_e
  no-e e h = sym (ap (λ (t : Bool). if t then is_e (get_or s i 0) else false) (lt-ltb i (length s) h)) ∙ e

  pub exponent-none : has_e s i ≡ false → ExponentPast s i (record { negative = false; size = 0; at = i })
  unfolding exponent
  exponent-none f e l t v x = go (eq-or-lt_of_le l)
    where
      go : (i ≡ e) ⊎ (i < e) → ExponentRead (slice i e s) (record { negative = false; size = 0; at = i }) × (i ≡ e)
      go (inl z) = (record { size = 0; near = exactly refl; value = rw (z, slice_empty e s) }, z)
      go (inr k) = absurd (true≢false (sym (x k) ∙ no-e f (omega (arith, t.within))))

exponent-is : (c : ℕ) (w : List ℕ) → exponent (c ∷ w) ≡ with_sign (is_minus w) (number_from 0 (unsigned w))
unfolding exponent
exponent-is c w = refl

some_read : (s : List ℕ) (at e i : ℕ) (t : Bool) (r : Run) → at < e → e ≤ length s → is_exponent (slice at e s) ≡ true
    → t ≡ is_minus (slice (at + 1) e s) → Unsigned s (at + 1) e i → Digits s i e 0 r → ExponentRead (slice at e s) (record { negative = t; size = r.n; at = r.at }) × (r.at ≡ e)
some_read s at e i t r h l v m u g =
    let w = slice (at + 1) e s in
    let y : slice at e s ≡ get_or s at 0 ∷ w = slice-cons at e s 0 h l ∙ ap (λ (n : ℕ). get_or s at 0 ∷ slice n e s) (sym (add-one at)) in
    let a : every is_digit (unsigned w) ≡ true = exponent-digits (get_or s at 0) w (rw (← y) v) in
    let b : unsigned w ≡ slice i r.at s ++ slice r.at e s = u.bytes ∙ slice-parts s i r.at g.past e g.within l in
    let d : slice i r.at s ≡ slice i r.at s ++ slice r.at e s = all_digits (slice i r.at s) (slice r.at e s) (stops s r.at e g.within l g.stop) (rw (← b) a) in (
      record {
        size = number_from 0 (unsigned w);
        near = rw (b, ← d) (g.near 0 (exactly refl));
        value = rw y (exponent-is (get_or s at 0) w ∙ ap (λ (x : Bool). with_sign x (number_from 0 (unsigned w))) (sym m));
      },
      omega (arith, ap length d, length-append (slice i r.at s) (slice r.at e s), length-slice r.at e s l, g.within),
    )

pub exponent-some : (s : List ℕ) (at i : ℕ) (m : Bool) (r : Run) → has_e s at ≡ true → MinusAt s (at + 1) m → SignPast s (at + 1) i → Digits s i (length s) 0 r
    → ExponentPast s at (record { negative = m; size = r.n; at = r.at })
exponent-some s at i m r h n u g e l t v x = go (eq-or-lt_of_le l)
  where
    go : (at ≡ e) ⊎ (at < e) → ExponentRead (slice at e s) (record { negative = m; size = r.n; at = r.at }) × (r.at ≡ e)
    go (inl z) = let y = e-there s at h in absurd (no_label s e t (omega (arith, y.0)) (rw (← z) (e-label (get_or s at 0) y.1)))
    go (inr k) =
        let j : at + 1 ≤ e = omega arith in
        let p = u.read e j t in
        some_read s at e i m r k t.within v (n e j t) p (digits-to s i e 0 r g p.within t)

-- ---- the whole length

length-read : (s : List ℕ) (b e i : ℕ) (t : Bool) (d : Decimal) (x : Exponent) → length s < 2 ^ 59 → d.behind ≤ length s → t ≡ is_minus (slice b e s)
    → Unsigned s b e i → DecimalRead s i e d → ExponentRead (slice d.at e s) x
    → measured t d.n (with_sign x.negative x.size -ℤ pos d.behind) ≡ length_of (slice b e s)
length-read s b e i t d x h f m u g k =
    sym (length-unsigned (slice b e s)
    ∙ rw (u.bytes, g.rest, k.value, ← g.behind, ← m)
    (near-measured t (number_from 0 (without_point (before_e (slice i e s)))) d.n (with_sign x.negative k.size -ℤ pos d.behind) g.number
    ∙ near-power t x.negative d.n x.size k.size d.behind (omega arith) k.near))

-- an exponent begins with e or E
rest-e : (s w : List ℕ) (i e : ℕ) → from_e w ≡ slice i e s → e ≤ length s → i < e → is_e (get_or s i 0) ≡ true
rest-e s w i e h l k = first-e w (get_or s i 0) (slice (suc i) e s) (h ∙ slice-cons i e s 0 k l)

pub length_taken : (s : List ℕ) (b i : ℕ) (t : Bool) (d : Decimal) (x : Exponent) → (v : LengthStands s b) → length s < 2 ^ 59 → MinusAt s b t → SignPast s b i → DecimalPast s i d → ExponentPast s d.at x
    → RunEnd s b x.at × (measured t d.n (with_sign x.negative x.size -ℤ pos d.behind) ≡ length_of (slice b x.at s))
length_taken s b i t d x v h m u g k =
    let e = v.end in
    let w = slice b e s in
    let q : TokenEnd s e = record { within = v.run.within; stop = v.run.stop } in
    let p = u.read e v.run.past q in
    let r = g.read e p.within q (rw (← p.bytes) (length_digits w v.is-length)) in
    let z = k e r.within q (rw (← r.rest, ← p.bytes) (length-exponent w v.is-length)) (rest-e s (slice i e s) d.at e r.rest q.within) in
    rw z.1 (v.run, length-read s b e i t d x h g.few (m e v.run.past q) p r z.0)
