-- The laws of verdicts that are counted, one after another.
--
--   verdict-refused, verdict-accepted     one verdict more
--   verdicts-none                         behind the last there is none
use Rattle.std.specs.Prelude.{◌≡◌, ℕ, suc, ◌+◌, ◌<◌, ◌≤◌, List, ◌∷◌, length, drop, slice_index, if◌then◌else◌}
use Rattle.std.proofs.Math.Numerals.{add-one}
use Rattle.std.proofs.Math.Path.{refl}
use Rattle.std.proofs.Common.{◌∙◌, drop_of_length-le, drop-cons, lt-ltb, le-ltb}
use Rattle.trees.specs.Plain.{keep}
use Rattle.trees.specs.Batch.{is_refusal, refused_in}

module _ (v : List ℕ) (i : ℕ) where
  rest-cons : i < length v → refused_in (drop i v) ≡ length (if is_refusal (slice_index v i) then slice_index v i ∷ keep is_refusal (drop (i + 1) v) else keep is_refusal (drop (i + 1) v))
  unfolding refused_in keep
  rest-cons h = rw (drop-cons v i 0 h, add-one i)

  rest-is : refused_in (drop (i + 1) v) ≡ length (keep is_refusal (drop (i + 1) v))
  unfolding refused_in keep
  rest-is = refl

  pub verdict-refused : i < length v → slice_index v i < 256 → refused_in (drop i v) ≡ suc (refused_in (drop (i + 1) v))
  verdict-refused h e = rest-cons h ∙ rw (lt-ltb (slice_index v i) 256 e, rest-is) refl

  pub verdict-accepted : i < length v → 256 ≤ slice_index v i → refused_in (drop i v) ≡ refused_in (drop (i + 1) v)
  verdict-accepted h e = rest-cons h ∙ rw (le-ltb (slice_index v i) 256 e, rest-is) refl

  pub verdicts-none : length v ≤ i → refused_in (drop i v) ≡ 0
  unfolding refused_in keep
  verdicts-none h = rw (drop_of_length-le v h)

pub ruleset verdict_laws = (verdict-refused, verdict-accepted, verdicts-none)
