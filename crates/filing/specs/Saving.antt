-- Files that are written.
--
--   SavedAs a r     whether the bytes that the call a gives are saved: not where it refuses
use Rattle.std.specs.Prelude.{◌≡◌, Bool, false, Result, Ok, Err, ℕ}
use Rattle.answers.specs.declared.Refusal.{Refusal}

unfoldable pub SavedAs : Result ℕ Refusal → Bool → Type 0
SavedAs (Err k) r = r ≡ false
SavedAs (Ok n) r = Unit {0}
