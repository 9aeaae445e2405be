-- Laws of reading a file, a command at a time. Assumes nothing.
--
--   reads-last, reads-moved     a command without a semicolon, and one with it that does m
use Rattle.std.specs.Prelude.{ℕ, ◌+◌, ◌<◌, ◌≡◌, refl, false, List, ◌∷◌, length}
use Rattle.std.proofs.Common.{sym, subst, ◌∙◌}
use Rattle.std.proofs.Math.Path.{ap}
use Rattle.trees.specs.Text.{parts}
use Rattle.trees.specs.Nexus.{uncommented}
use Rattle.trees.specs.NexusReading.{Place, Move, moved, closes, reads_on, reads}
use Rattle.nexus.specs.Places.{part, plain_at, commands_at, CommandEnd}
use Rattle.nexus.specs.PartsLaws.{parts-split}

-- a command, and what stands behind its semicolon
reads_more : (q : Place) (c : List ℕ) (x : ℕ) (s : List ℕ) → reads q (c ∷ parts x false s) ≡ reads_on (moved q c) (λ p. reads p (parts x false s))
unfolding reads
reads_more q c x s = subst (λ ds. reads q (c ∷ ds) ≡ reads_on (moved q c) (λ p. reads p ds)) (sym (parts-split x false s)) refl

module _ (f : List ℕ) (i e : ℕ) (c : CommandEnd f i e) where
  pub reads-last : e ≡ length f → (q : Place) → reads q (commands_at f i) ≡ closes q (plain_at f i)
  unfolding reads
  reads-last l q = ap (reads q) (c.last l)

  pub reads-moved : e < length f → (q : Place) (m : Move) → moved q (uncommented false (part i e f)) ≡ m
      → reads q (commands_at f i) ≡ reads_on m (λ p. reads p (commands_at f (e + 1)))
  reads-moved l q m h =
      ap (reads q) (c.more l) ∙ reads_more q (uncommented false (part i e f)) _ _ ∙ ap (λ (x : Move). reads_on x (λ p. reads p (commands_at f (e + 1)))) h
