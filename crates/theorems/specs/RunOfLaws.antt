-- Laws of runs of bytes at the front of a list. Assumes nothing.
--
--   run-here, run-over, behind-here, behind-over     a byte that passes, and one that does not
--   run_join          a run, and what stands behind it
--   run-every         every byte of a run passes
--   behind-stops      none stands behind it
--   run-of, behind-of     a run of bytes that pass, before bytes that begin with none
--   every-behind      whether every byte passes, by what stands behind the run
--   blank-all, blank-not     every byte passes exactly where nothing stands behind the run
--   run-begins        a run is not empty exactly where the first byte passes
--   begins-of         bytes that pass begin with one
--   begins-apart, begins-other     bytes that pass a test do not begin with one that passes a test apart from it
use Rattle.std.specs.Prelude.{ℕ, ◌≤◌, ◌≡◌, Bool, ◌&&◌, if◌then◌else◌}
use Rattle.std.proofs.Common.{arith, sym, ◌∙◌, true≢false}
use Rattle.std.proofs.Math.Path.{refl, ap}
use Rattle.std.proofs.Math.Bool.{true, false}
use mathlib.Core.List.{List, [], ◌∷◌, ◌++◌}
use Rattle.std.proofs.Math.ListN.{length}
use Rattle.trees.specs.Plain.{every}
use Rattle.trees.specs.Nexus.{run_of, behind_run, begins}
use Rattle.theorems.specs.ListLaws.{if-true, if-false, and_left}

module _ (p : ℕ → Bool) where
  pub run-here : (b : ℕ) (s : List ℕ) → p b ≡ true → run_of p (b ∷ s) ≡ b ∷ run_of p s
  unfolding run_of
  run-here b s e = if-true _ _ e

  pub run-over : (s : List ℕ) → begins p s ≡ false → run_of p s ≡ []
  unfolding run_of begins
  run-over [] e = refl
  run-over (b ∷ s) e = if-false _ _ e

  pub behind-here : (b : ℕ) (s : List ℕ) → p b ≡ true → behind_run p (b ∷ s) ≡ behind_run p s
  unfolding behind_run
  behind-here b s e = if-true _ _ e

  pub behind-over : (s : List ℕ) → begins p s ≡ false → behind_run p s ≡ s
  unfolding behind_run begins
  behind-over [] e = refl
  behind-over (b ∷ s) e = if-false _ _ e

  pub run_join : (s : List ℕ) → run_of p s ++ behind_run p s ≡ s
  unfolding run_of behind_run
  run_join [] = refl
  run_join (b ∷ s) = go (p b) (run_join s)
    where
      go : (t : Bool) → run_of p s ++ behind_run p s ≡ s → (if t then b ∷ run_of p s else []) ++ (if t then behind_run p s else b ∷ s) ≡ b ∷ s
      go true f = ap (λ (l : List ℕ). b ∷ l) f
      go false f = refl

  pub run-every : (s : List ℕ) → every p (run_of p s) ≡ true
  unfolding run_of every
  run-every [] = refl
  run-every (b ∷ s) = go (p b) refl (run-every s)
    where
      go : (t : Bool) → p b ≡ t → every p (run_of p s) ≡ true → every p (if t then b ∷ run_of p s else []) ≡ true
      go true e f = rw e f
      go false e f = refl

  pub behind-stops : (s : List ℕ) → begins p (behind_run p s) ≡ false
  unfolding behind_run begins
  behind-stops [] = refl
  behind-stops (b ∷ s) = go (p b) refl (behind-stops s)
    where
      go : (t : Bool) → p b ≡ t → begins p (behind_run p s) ≡ false → begins p (if t then behind_run p s else b ∷ s) ≡ false
      go true e f = f
      go false e f = e

  pub run-of : (w r : List ℕ) → every p w ≡ true → begins p r ≡ false → run_of p (w ++ r) ≡ w
  unfolding every
  run-of [] r e n = run-over r n
  run-of (b ∷ w) r e n = go (p b) refl e (λ f. run-of w r f n)
    where
      go : (t : Bool) → p b ≡ t → (t && every p w) ≡ true → (every p w ≡ true → run_of p (w ++ r) ≡ w) → run_of p (b ∷ (w ++ r)) ≡ b ∷ w
      go true q f g = run-here b (w ++ r) q ∙ ap (λ (l : List ℕ). b ∷ l) (g f)
      go false q f g = absurd (true≢false (sym f))

  pub behind-of : (w r : List ℕ) → every p w ≡ true → begins p r ≡ false → behind_run p (w ++ r) ≡ r
  unfolding every
  behind-of [] r e n = behind-over r n
  behind-of (b ∷ w) r e n = go (p b) refl e (λ f. behind-of w r f n)
    where
      go : (t : Bool) → p b ≡ t → (t && every p w) ≡ true → (every p w ≡ true → behind_run p (w ++ r) ≡ r) → behind_run p (b ∷ (w ++ r)) ≡ r
      go true q f g = behind-here b (w ++ r) q ∙ g f
      go false q f g = absurd (true≢false (sym f))

  -- ---- every byte passes

  pub every-behind : (s : List ℕ) → every p s ≡ every p (behind_run p s)
  unfolding every behind_run
  every-behind [] = refl
  every-behind (b ∷ s) = go (p b) refl (every-behind s)
    where
      go : (t : Bool) → p b ≡ t → every p s ≡ every p (behind_run p s) → (t && every p s) ≡ every p (if t then behind_run p s else b ∷ s)
      go true e f = f
      go false e f = rw e

  pub blank-all : (s : List ℕ) → behind_run p s ≡ [] → every p s ≡ true
  unfolding every
  blank-all s e = every-behind s ∙ ap (every p) e

  pub blank-not : (s r : List ℕ) (b : ℕ) → behind_run p s ≡ b ∷ r → every p s ≡ false
  unfolding every begins
  blank-not s r b e =
      every-behind s ∙ ap (every p) e
      ∙ ap (λ (t : Bool). t && every p r) (sym (ap (begins p) e) ∙ behind-stops s)

  -- ---- the first byte

  pub run-begins : (s : List ℕ) → begins p s ≡ true → 1 ≤ length (run_of p s)
  unfolding begins
  run-begins [] e = absurd (true≢false (sym e))
  run-begins (b ∷ s) e = omega (arith, ap length (run-here b s e))

  pub begins-of : (w r : List ℕ) → 1 ≤ length w → every p w ≡ true → begins p (w ++ r) ≡ true
  unfolding begins every
  begins-of [] r h e = absurd (omega arith)
  begins-of (b ∷ w) r h e = and_left (p b) (every p w) e

-- a byte that passes p does not pass q
module _ (p q : ℕ → Bool) (apart : (b : ℕ) → p b ≡ true → q b ≡ false) where
  pub begins-apart : (w r : List ℕ) → 1 ≤ length w → every p w ≡ true → begins q (w ++ r) ≡ false
  unfolding begins every
  begins-apart [] r h e = absurd (omega arith)
  begins-apart (b ∷ w) r h e = apart b (and_left (p b) (every p w) e)

  pub begins-other : (w r : List ℕ) → every p w ≡ true → begins q r ≡ false → begins q (w ++ r) ≡ false
  unfolding begins every
  begins-other [] r e n = n
  begins-other (b ∷ w) r e n = apart b (and_left (p b) (every p w) e)
