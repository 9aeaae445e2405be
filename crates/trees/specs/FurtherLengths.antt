-- Further samples, of our own: the values of lengths (request 2026-03), at the edges of the exact range and one past them.
--
--   values       lengths, with the 64 bits of the double; none outside the exact range
--   doubles      64 bits whose double is finite and not minus zero, and such whose is not
use Rattle.std.specs.Prelude.{ℕ, Bool, true, false, List, [], ◌∷◌, map, ◌≡◌, refl, Float}
use Prim.Native.String.{String}
use Rattle.std.proofs.Math.Option.{Option, none, some}
use Rattle.std.specs.Float.{binary64}
use Rattle.std.specs.Float.Ieee.{to_bits, of_bits}
use Rattle.trees.specs.Plain.{bytes}
use Rattle.trees.specs.Value.{length_of, proper}

pub record Value : Type 0 where
  pub name : String
  pub token : String
  pub says : Option ℕ

unfoldable pub values : List Value
values =
    record { name = "a tenth"; token = "0.1"; says = some 0x3fb9_9999_9999_999a }
    ∷ record { name = "no digit before the point"; token = ".5"; says = some 0x3fe0_0000_0000_0000 }
    ∷ record { name = "no digit behind the point"; token = "5."; says = some 0x4014_0000_0000_0000 }
    ∷ record { name = "a plus sign"; token = "+5"; says = some 0x4014_0000_0000_0000 }
    ∷ record { name = "a minus sign"; token = "-.5"; says = some 0xbfe0_0000_0000_0000 }
    ∷ record { name = "E"; token = "1.5E3"; says = some 0x4097_7000_0000_0000 }
    ∷ record { name = "zero is plus zero"; token = "-0"; says = some 0 }
    ∷ record { name = "with digits behind the point too"; token = "-0.00"; says = some 0 }
    ∷ record { name = "the largest power of ten"; token = "1e22"; says = some 0x4480_f0cf_064d_d592 }
    ∷ record { name = "one more"; token = "1e23"; says = none }
    ∷ record { name = "of zero"; token = "0e22"; says = some 0 }
    ∷ record { name = "one more, of zero"; token = "0e23"; says = none }
    ∷ record { name = "a digit behind the point lowers it"; token = "1.5e23"; says = some 0x44bf_c384_2bd1_f072 }
    ∷ record { name = "the lowest power of ten"; token = "-1e-22"; says = some 0xbb5e_3920_1017_5ee6 }
    ∷ record { name = "one less"; token = "1e-23"; says = none }
    ∷ record { name = "a 0 behind the point is a digit"; token = "1.0e-22"; says = none }
    ∷ record { name = "22 digits behind the point"; token = "0.0000000000000000000001"; says = some 0x3b5e_3920_1017_5ee6 }
    ∷ record { name = "23 digits behind the point"; token = "0.00000000000000000000001"; says = none }
    ∷ record { name = "15 zeros behind the point"; token = "1.000000000000000"; says = some 0x3ff0_0000_0000_0000 }
    ∷ record { name = "22 zeros behind the point: a whole number of 10^22"; token = "1.0000000000000000000000"; says = none }
    ∷ record { name = "the largest whole number"; token = "9007199254740992"; says = some 0x4340_0000_0000_0000 }
    ∷ record { name = "one more"; token = "9007199254740993"; says = none }
    ∷ record { name = "the largest length"; token = "9007199254740992e22"; says = some 0x47d0_f0cf_064d_d592 }
    ∷ record { name = "zeros in front"; token = "000000000000000000000000000000001.50"; says = some 0x3ff8_0000_0000_0000 }
    ∷ record { name = "an exponent of 20 digits, zeros in front"; token = "1e-00000000000000000002"; says = some 0x3f84_7ae1_47ae_147b }
    ∷ record { name = "an exponent of 21 digits, zeros in front"; token = "1E+000000000000000000002"; says = some 0x4059_0000_0000_0000 }
    ∷ record { name = "an exponent of 20 nines"; token = "1e99999999999999999999"; says = none }
    ∷ record { name = "an exponent of 21 nines"; token = "1e-999999999999999999999"; says = none }
    ∷ record { name = "an exponent of 2^64 + 1"; token = "1e18446744073709551617"; says = none }
    ∷ []

-- a double by its 64 bits
unfoldable pub bits_of : Option Float → Option ℕ
unfolding to_bits
bits_of none = none
bits_of (some x) = some (to_bits binary64 x)

pub values-hold : map (λ r. bits_of (length_of (bytes r.token))) values ≡ map (λ r. r.says) values
unfolding values bits_of length_of bytes
values-hold = refl

pub record Double : Type 0 where
  pub name : String
  pub bits : ℕ
  pub says : Bool

unfoldable pub doubles : List Double
doubles =
    record { name = "plus zero"; bits = 0; says = true }
    ∷ record { name = "minus zero"; bits = 0x8000_0000_0000_0000; says = false }
    ∷ record { name = "the largest below zero"; bits = 0x8000_0000_0000_0001; says = true }
    ∷ record { name = "the largest of all"; bits = 0x7fef_ffff_ffff_ffff; says = true }
    ∷ record { name = "infinity"; bits = 0x7ff0_0000_0000_0000; says = false }
    ∷ record { name = "the lowest of all"; bits = 0xffef_ffff_ffff_ffff; says = true }
    ∷ record { name = "minus infinity"; bits = 0xfff0_0000_0000_0000; says = false }
    ∷ record { name = "all ones, no number"; bits = 0xffff_ffff_ffff_ffff; says = false }
    ∷ []

pub doubles-hold : map (λ r. proper (of_bits binary64 r.bits)) doubles ≡ map (λ r. r.says) doubles
unfolding doubles proper of_bits
doubles-hold = refl
