-- The laws of the opening that the first line asks for. Assumes nothing.
--
--   take-up_to                          the first n of a list of constants
--   constants-more, constants-all, filled-long     such a list, filled one by one
--   many-names                         more than 64 names are refused with 2
--   opened_out, opened-kept, opened-names     what each return of the code promises
--   enough-lent                        with 22,024 lent bytes or more, the opening is that of the summary
--   two-or-three                       a first line that is refused then is refused with 2 or 3
use Rattle.std.specs.Prelude.{ℕ, zero, suc, ◌+◌, ◌≤◌, ◌<◌, ◌≡◌, ◌⊎◌, Bool, true, false, ◌&&◌, List, ◌∷◌, ◌++◌, length, set, take, drop, if◌then◌else◌, Result, Err}
use Rattle.std.proofs.Common.{add-one, arith, sym, ap, subst, ◌∙◌, inl, inr, append-nil, drop_of_length-le, take_all}
use Rattle.std.proofs.Math.Path.{refl}
use borrow.Author.Tests.{le-leb, lt-leb}
use Rattle.theorems.specs.ListLaws.{less-or-not}
use Rattle.trees.specs.Plain.{Answer, refused, gives}
use Rattle.trees.specs.Names.{names_in, good_names, name_count}
use Rattle.trees.specs.Opening.{Opening, store_size, between, in_range, good_constants, opening}
use Rattle.answers.specs.declared.Refusal.TheVariants as why
use Rattle.answers.specs.Answers.{refusal_number}
use Rattle.answers.specs.FrontLaws.{copied_more, copied_all}
use Rattle.head.specs.Head.{from_to, up_to}
use Rattle.head.specs.HeadLaws.{up_to-length, up_to-at}
use Rattle.opening.specs.Given.{flag_of, numbers_of}
use Rattle.opening.specs.GivenLaws.{range-not-taxa}
use Rattle.table.specs.Promises.{OpenedAs}
use Rattle.answers.specs.FrontLaws.{copied_more, copied_all}
use Rattle.table.specs.OpenLaws.{not-in-range, refused_as}
use Rattle.summary.specs.Summary.{summary_numbers, first_constant, second_constant, names_opening, summary_opening, summary_bytes}
use Rattle.summary.specs.FirstLine.{Kept, kept_opening}
use Rattle.answers.specs.declared.Refusal.{Refusal}

-- ---- constants

take-from : {A : Type 0} (f : ℕ → A) (k n m : ℕ) → n ≤ m → take n (from_to f k m) ≡ from_to f k n
unfolding from_to
take-from f k zero m h = refl
take-from f k (suc n) zero h = absurd (omega arith)
take-from f k (suc n) (suc m) h = ap (λ l. f k ∷ l) (take-from f (suc k) n m (omega arith))

pub take-up_to : {A : Type 0} (f : ℕ → A) (n m : ℕ) → n ≤ m → take n (up_to f m) ≡ up_to f n
unfolding up_to
take-up_to f n m h = take-from f 0 n m h

pub constants-more : (f : ℕ → ℕ) (l t : List ℕ) (j v : ℕ) → t ≡ take j (up_to f (length l)) ++ drop j l → j < length l → v ≡ f j
    → set t j v ≡ take (j + 1) (up_to f (length l)) ++ drop (j + 1) l
constants-more f l t j v e h q =
    copied_more (up_to f (length l)) l t j e v (omega (arith, up_to-length f (length l))) h (q ∙ sym (up_to-at f (length l) j 0 h))

pub constants-all : (f : ℕ → ℕ) (l t : List ℕ) (j : ℕ) → t ≡ take j (up_to f (length l)) ++ drop j l → j ≡ length l → t ≡ up_to f (length l)
constants-all f l t j e h =
    let d : length l ≤ j = omega arith in
    copied_all (up_to f (length l)) l t j e (h ∙ sym (up_to-length f (length l)))
    ∙ ap (λ (x : List ℕ). up_to f (length l) ++ x) (drop_of_length-le l d) ∙ append-nil (up_to f (length l))

pub filled-long : (f : ℕ → ℕ) (l t : List ℕ) → t ≡ up_to f (length l) → length t ≡ length l
filled-long f l t e = ap length e ∙ up_to-length f (length l)

-- ---- the returns of the code

-- more than 64 names
pub many-names : (n : ℕ) (list : List ℕ) (lent : ℕ) → 64 < n → names_opening n list lent ≡ refused 2
unfolding names_opening
many-names n list lent h =
    not-in-range (summary_numbers n) list (up_to first_constant n) (up_to second_constant n) lent (range-not-taxa (summary_numbers n) outside)
  where
    outside : between 4 64 (summary_numbers n).taxa ≡ false
    outside = unfold summary_numbers in rw (le-leb 4 n (omega arith), lt-leb n 64 h)

pub opened_out : (k : Kept) (lent : ℕ) (s : List ℕ) → 63 < k.spaces → OpenedAs (kept_opening k lent) (Err why.OutOfRange) s s
unfolding refusal_number
opened_out k lent s h = refused_as (kept_opening k lent) 2 why.OutOfRange s many refl
  where
    many : kept_opening k lent ≡ refused 2
    many = unfold kept_opening in many-names (suc k.spaces) (take k.used k.bytes) lent (omega arith)

module _ (k : Kept) (lent m n : ℕ) (e : n ≡ k.spaces + 1) (a : m ≤ k.used) (b : m ≤ length k.bytes) (d : m < k.used → m ≡ length k.bytes) where
  same-part : take m k.bytes ≡ take k.used k.bytes
  same-part = go (less-or-not m k.used)
    where
      go : (m < k.used) ⊎ (k.used ≤ m) → take m k.bytes ≡ take k.used k.bytes
      go (inl l) = let f = d l in take_all m k.bytes (omega arith) ∙ sym (take_all k.used k.bytes (omega arith))
      go (inr l) = let f : m ≡ k.used = omega arith in ap (λ (i : ℕ). take i k.bytes) f

  kept-is : names_opening n (take m k.bytes) lent ≡ kept_opening k lent
  kept-is = rw (e, add-one k.spaces, same-part) (sym kept-names)
    where
      kept-names : kept_opening k lent ≡ names_opening (suc k.spaces) (take k.used k.bytes) lent
      kept-names = unfold kept_opening in refl

  pub opened-kept : (r : Result (Unit {0}) Refusal) (s t : List ℕ) → OpenedAs (names_opening n (take m k.bytes) lent) r s t → OpenedAs (kept_opening k lent) r s t
  opened-kept r s t p = subst (λ (x : Answer Opening). OpenedAs x r s t) kept-is p

pub opened-names : (n lent : ℕ) (list first second : List ℕ) (r : Result (Unit {0}) Refusal) (s t : List ℕ) → n ≤ 64 → first ≡ up_to first_constant 64 → second ≡ up_to second_constant 64
    → OpenedAs (opening (numbers_of n 1 48 256 512 false) list (take n first) (take n second) lent) r s t → OpenedAs (names_opening n list lent) r s t
opened-names n lent list first second r s t h e f p = subst (λ (x : Answer Opening). OpenedAs x r s t) same p
  where
    names-is : names_opening n list lent ≡ opening (numbers_of n 1 48 256 512 false) list (up_to first_constant n) (up_to second_constant n) lent
    names-is = unfold names_opening summary_numbers flag_of in refl

    same : opening (numbers_of n 1 48 256 512 false) list (take n first) (take n second) lent ≡ names_opening n list lent
    same = rw (e, f, take-up_to first_constant n 64 h, take-up_to second_constant n 64 h) (sym names-is)

-- ---- with enough lent bytes

module _ (line : List ℕ) (lent : ℕ) (h : summary_bytes ≤ lent) where
  -- the tests before that of the lent bytes, which passes
  abbrev by_tests : Bool → Bool → Opening → Answer Opening
  by_tests a b o = if a then if b then gives o else refused 3 else refused 2

  abbrev n : ℕ
  n = name_count line

  abbrev ranges : Bool
  ranges = in_range (summary_numbers n) && good_constants (summary_numbers n) (up_to first_constant n) (up_to second_constant n)

  abbrev asked : Opening
  asked = record { numbers = summary_numbers n; names = names_in line; first = up_to first_constant n; second = up_to second_constant n }

  by_tests_lem : summary_opening line lent ≡ by_tests ranges (good_names n (names_in line)) asked
  unfolding summary_opening names_opening opening summary_numbers store_size
  by_tests_lem = rw (le-leb 22024 lent h) refl

  -- "a count outside 4 to 64 gives 2, any other fault 3"
  pub two-or-three : (k : ℕ) → summary_opening line lent ≡ refused k → (k ≡ 2) ⊎ (k ≡ 3)
  two-or-three k e = go ranges (good_names n (names_in line)) (sym by_tests_lem ∙ e)
    where
      go : (a b : Bool) → by_tests a b asked ≡ refused k → (k ≡ 2) ⊎ (k ≡ 3)
      go true true f = absurd (let z : ◌≡◌ {A = ℕ} 0 1 = cc f in omega arith)
      go true false f = inr (let z : ◌≡◌ {A = ℕ} k 3 = cc f in z)
      go false b f = inl (let z : ◌≡◌ {A = ℕ} k 2 = cc f in z)

pub enough-lent : (line : List ℕ) (lent : ℕ) → summary_bytes ≤ lent → summary_opening line lent ≡ summary_opening line summary_bytes
enough-lent line lent h = by_tests_lem line lent h ∙ sym (by_tests_lem line summary_bytes (omega arith))
