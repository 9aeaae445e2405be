-- What the readers answer, in terms of the definitions: the places from i up to e stand for the bytes `slice i e s`. A reader is not told
-- where the length ends: what it answers holds of every end of a token.
--
--   TokenEnd s e             a token can end at e: no label byte stands there
--   has_e s i                 e or E stands at i
--   MinusAt s from r         r: a minus sign stands at from
--   Unsigned s from e r      r is past a sign; SignPast s from r: for every end of a token
--   Digits s from e n r      a run of digits behind those of n, up to a byte that is none or to e
--   DecimalRead s from e r   the digits, and how many stand behind the point; DecimalPast s from r: for every end of a token
--   ExponentRead w r         the exponent; ExponentPast s at r: for every end of a token, which is where the exponent ends
--   LengthStands s b         a length stands at b
--   LengthTaken s b r        its value, and its end
use Rattle.std.specs.Prelude.{ℕ, ◌≤◌, ◌<◌, ◌≡◌, Bool, true, false, List, ltb, length, get_or, if◌then◌else◌}
use Rattle.std.proofs.Math.Seq.{slice}
use Rattle.trees.specs.Plain.{every}
use Rattle.trees.specs.Text.{is_label_byte}
use Rattle.trees.specs.Length.{is_digit, is_e, unsigned, without_point, before_e, from_e, is_exponent, is_length}
use Rattle.trees.specs.Value.{number_from, is_minus, behind_point, with_sign, exponent, length_of}
use Rattle.text.specs.Read.{RunEnd}
use Rattle.lengths.specs.Near.{Near}
use Rattle.lengths.specs.Answer.{value_given}
use Rattle.lengths.specs.declared.Run.{Run}
use Rattle.lengths.specs.declared.Decimal.{Decimal}
use Rattle.lengths.specs.declared.Exponent.{Exponent}
use Rattle.lengths.specs.declared.Taken.{Taken}

pub record TokenEnd (s : List ℕ) (e : ℕ) : Type 0 where
  pub within : e ≤ length s
  pub stop : e < length s → is_label_byte (get_or s e 0) ≡ false

unfoldable pub has_e : List ℕ → ℕ → Bool
unfolding is_e
has_e s i = if ltb i (length s) then is_e (get_or s i 0) else false

abbrev pub MinusAt : List ℕ → ℕ → Bool → Type 0
MinusAt s from r = (e : ℕ) → from ≤ e → TokenEnd s e → r ≡ is_minus (slice from e s)

-- from r on stands what is left of the bytes from `from` on without their sign
pub record Unsigned (s : List ℕ) (from e r : ℕ) : Type 0 where
  pub past : from ≤ r
  pub within : r ≤ e
  pub bytes : unsigned (slice from e s) ≡ slice r e s

pub record SignPast (s : List ℕ) (from r : ℕ) : Type 0 where
  pub within : r ≤ length s
  pub read : (e : ℕ) → from ≤ e → TokenEnd s e → Unsigned s from e r

-- the bytes from `from` up to r.at are digits, no digit stands behind them, and r.n stands for the number with them behind n
pub record Digits (s : List ℕ) (from e n : ℕ) (r : Run) : Type 0 where
  pub past : from ≤ r.at
  pub within : r.at ≤ e
  pub all : every is_digit (slice from r.at s) ≡ true
  pub stop : r.at < e → is_digit (get_or s r.at 0) ≡ false
  pub near : (m : ℕ) → Near m n → Near (number_from m (slice from r.at s)) r.n

-- r.n stands for the digits without the point, r.behind of them stand behind it, and from r.at on stands the exponent, if there is one
pub record DecimalRead (s : List ℕ) (from e : ℕ) (r : Decimal) : Type 0 where
  pub past : from ≤ r.at
  pub within : r.at ≤ e
  pub number : Near (number_from 0 (without_point (before_e (slice from e s)))) r.n
  pub behind : r.behind ≡ length (behind_point (before_e (slice from e s)))
  pub rest : from_e (slice from e s) ≡ slice r.at e s

pub record DecimalPast (s : List ℕ) (from : ℕ) (r : Decimal) : Type 0 where
  pub within : r.at ≤ length s
  pub few : r.behind ≤ length s
  pub read : (e : ℕ) → from ≤ e → TokenEnd s e → every is_digit (without_point (before_e (slice from e s))) ≡ true → DecimalRead s from e r

-- r.size stands for the size of the exponent w, and r.negative is its sign
pub record ExponentRead (w : List ℕ) (r : Exponent) : Type 0 where
  pub size : ℕ
  pub near : Near size r.size
  pub value : exponent w ≡ with_sign r.negative size

abbrev pub ExponentPast : List ℕ → ℕ → Exponent → Type 0
ExponentPast s at r =
    (e : ℕ) → at ≤ e → TokenEnd s e → is_exponent (slice at e s) ≡ true → (at < e → is_e (get_or s at 0) ≡ true) → ExponentRead (slice at e s) r × (r.at ≡ e)

pub record LengthStands (s : List ℕ) (b : ℕ) : Type 0 where
  pub end : ℕ
  pub run : RunEnd s b end
  pub is-length : is_length (slice b end s) ≡ true

pub record LengthTaken (s : List ℕ) (b : ℕ) (r : Taken) : Type 0 where
  pub run : RunEnd s b r.at
  pub value : value_given r.value ≡ length_of (slice b r.at s)
