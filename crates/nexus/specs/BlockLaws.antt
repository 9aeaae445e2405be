-- Laws of the blocks before and behind the TREES block. Assumes nothing.
--
--   other-ends, other-goes-on, other-never     a command of another block
--   Beyond             the loop of `past_other` has passed commands of another block
--   beyond-none, beyond-more, beyond-good, beyond-fault     none, one more, the one that ends it, and no such one
--   begun-reads        a command that begins a block, or is wrong
--   Outside            the loop of `next_block` has passed other blocks
--   outside-none, outside-more, outside-less     none, one more, with less left
--   outside-trees, outside-last, outside-wrong, outside-never     behind them: the TREES block, no command, a wrong one, or a block that never ends
--   ends-trees, ends-wrong, ends-blank, ends-else     what stands behind the TREES block
use Rattle.std.specs.Prelude.{ℕ, ◌+◌, ◌-◌, ◌≤◌, ◌<◌, ◌≡◌, Bool, List, [], if◌then◌else◌}
use native.Mathlib.Omega.{arith}
use Rattle.std.proofs.Math.Path.{refl}
use Rattle.std.proofs.Common.{◌∙◌}
use Rattle.std.proofs.Math.Bool.{true, false}
use Rattle.std.specs.Prelude.{None, Some}
use Rattle.std.proofs.Math.Option.{none, some}
use Rattle.std.proofs.Math.ListN.{length}
use borrow.Author.Tests.{eq-eqb, ne_eqb}
use Rattle.trees.specs.Nexus.{uncommented, File}
use Rattle.trees.specs.NexusReading.{ends_other, outside, in_other, in_trees, wrong, to, moved, closes, reads_on, reads}
use Rattle.theorems.specs.ListLaws.{if-true, if-false}
use Rattle.nexus.specs.declared.lines.Begun.{Begun}
use Rattle.nexus.specs.declared.lines.Begun.TheVariants as begun
use Rattle.nexus.specs.declared.blocks.Next.TheVariants.{Trees, Last, Wrong}
use Rattle.nexus.specs.Places.{part, commands_at, Skipped, CommandEnd}
use Rattle.nexus.specs.PlaceLaws.{blanks-only}
use Rattle.nexus.specs.Commands.{begun_move, BegunAs}
use Rattle.nexus.specs.Blocks.{OtherEnd, NextAs}
use Rattle.nexus.specs.ReadsLaws.{reads-last, reads-moved}

-- ---- another block

module _ (f : List ℕ) (i e : ℕ) (c : CommandEnd f i e) where
  other-ends : e < length f → ends_other (uncommented false (part i e f)) ≡ true → (came : Bool)
      → reads (in_other came) (commands_at f i) ≡ reads (outside came) (commands_at f (e + 1))
  unfolding moved reads_on
  other-ends l h came = reads-moved f i e c l (in_other came) (to (outside came)) (if-true _ _ h)

  other-goes-on : e < length f → ends_other (uncommented false (part i e f)) ≡ false → (came : Bool)
      → reads (in_other came) (commands_at f i) ≡ reads (in_other came) (commands_at f (e + 1))
  unfolding moved reads_on
  other-goes-on l h came = reads-moved f i e c l (in_other came) (to (in_other came)) (if-false _ _ h)

  other-never : e ≡ length f → (came : Bool) → reads (in_other came) (commands_at f i) ≡ none
  unfolding closes
  other-never l came = reads-last f i e c l (in_other came)

-- the loop has passed the commands of another block from i up to k
pub record Beyond (f : List ℕ) (i k : ℕ) : Type 0 where
  pub past : i ≤ k
  pub within : k ≤ length f
  pub same : (came : Bool) → reads (in_other came) (commands_at f i) ≡ reads (in_other came) (commands_at f k)

pub beyond-none : (f : List ℕ) (i : ℕ) → i ≤ length f → Beyond f i i
beyond-none f i h = record { past = omega arith; within = h; same = λ came. refl }

module _ (f : List ℕ) (i k e : ℕ) (b : Beyond f i k) (c : CommandEnd f k e) where
  pub beyond-more : (e ≡ length f → ⊥) → ends_other (uncommented false (part k e f)) ≡ false → Beyond f i (e + 1)
  beyond-more n h =
      let p = c.past in
      let q = c.within in
      record {
        past = omega (arith, b.past);
        within = omega (arith, n);
        same = λ came. b.same came ∙ other-goes-on f k e c (omega (arith, n)) h came;
      }

  pub beyond-good : (e ≡ length f → ⊥) → ends_other (uncommented false (part k e f)) ≡ true → OtherEnd f i (Some (e + 1))
  unfolding OtherEnd
  beyond-good n h =
      let p = c.past in
      let q = c.within in
      (omega (arith, b.past), omega (arith, n), λ came. b.same came ∙ other-ends f k e c (omega (arith, n)) h came)

  pub beyond-fault : e ≡ length f → OtherEnd f i None
  unfolding OtherEnd
  beyond-fault h came = b.same came ∙ other-never f k e c h came

-- ---- other blocks

module _ (f : List ℕ) (k e : ℕ) (c : CommandEnd f k e) (l : e < length f) (r : Begun) (b : BegunAs (part k e f) r) where
  begun-reads : (came : Bool) → reads (outside came) (commands_at f k) ≡ reads_on (begun_move came r) (λ p. reads p (commands_at f (e + 1)))
  unfolding moved
  begun-reads came = reads-moved f k e c l (outside came) (begun_move came r) (b came)

-- the loop has passed other blocks from i up to k
pub record Outside (f : List ℕ) (i k : ℕ) : Type 0 where
  pub within : k ≤ length f
  pub same : (came : Bool) → reads (outside came) (commands_at f i) ≡ reads (outside came) (commands_at f k)

pub outside-none : (f : List ℕ) (i : ℕ) → i ≤ length f → Outside f i i
outside-none f i h = record { within = h; same = λ came. refl }

module _ (f : List ℕ) (i k e : ℕ) (o : Outside f i k) (c : CommandEnd f k e) where
  pub outside-last : e ≡ length f → NextAs f i (Last k)
  unfolding NextAs
  outside-last l = (o.within, λ came. o.same came ∙ reads-last f k e c l (outside came))

  module _ (n : e ≡ length f → ⊥) where
    pub outside-trees : BegunAs (part k e f) begun.Trees → NextAs f i (Trees (e + 1))
    unfolding NextAs
    outside-trees b =
        let l : e < length f = omega (arith, n, c.within) in
        (omega arith, λ came. o.same came ∙ begun-reads f k e c l begun.Trees b came ∙ go came)
      where
        go : (came : Bool) → reads_on (if came then wrong else to (in_trees true)) (λ p. reads p (commands_at f (e + 1)))
            ≡ (if came then none else reads (in_trees true) (commands_at f (e + 1)))
        go true = unfold reads_on in refl
        go false = unfold reads_on in refl

    pub outside-wrong : BegunAs (part k e f) begun.Wrong → NextAs f i Wrong
    unfolding NextAs reads_on
    outside-wrong b came = o.same came ∙ begun-reads f k e c (omega (arith, n, c.within)) begun.Wrong b came

    pub outside-more : BegunAs (part k e f) begun.Other → (r : ℕ) → OtherEnd f (e + 1) (Some r) → Outside f i r
    unfolding OtherEnd reads_on
    outside-more b r p =
        record {
          within = p.1;
          same = λ came. o.same came ∙ begun-reads f k e c (omega (arith, n, c.within)) begun.Other b came ∙ p.2 came;
        }

    pub outside-never : BegunAs (part k e f) begun.Other → OtherEnd f (e + 1) None → NextAs f i Wrong
    unfolding NextAs OtherEnd reads_on
    outside-never b p came = o.same came ∙ begun-reads f k e c (omega (arith, n, c.within)) begun.Other b came ∙ p came

-- the loop ends: it passes another block
pub outside-less : (f : List ℕ) (k e r : ℕ) → k ≤ e → OtherEnd f (e + 1) (Some r) → length f - r < length f - k
unfolding OtherEnd
outside-less f k e r h p = omega (arith, p.0, p.1)

-- ---- behind the TREES block

-- a file that gives no pairs and no texts
abbrev pub nothing : File
nothing = record { pairs = []; texts = [] }

module _ (f : List ℕ) (i : ℕ) where
  pub ends-trees : (k : ℕ) → NextAs f i (Trees k) → reads (outside true) (commands_at f i) ≡ none
  unfolding NextAs
  ends-trees k n = n.1 true

  pub ends-wrong : NextAs f i Wrong → reads (outside true) (commands_at f i) ≡ none
  unfolding NextAs
  ends-wrong n = n true

  module _ (k r : ℕ) (n : NextAs f i (Last k)) (s : Skipped f k r) where
    pub ends-blank : r ≡ length f → reads (outside true) (commands_at f i) ≡ some nothing
    unfolding NextAs closes
    ends-blank h = n.1 true ∙ if-true _ _ (blanks-only f k r s ∙ eq-eqb r (length f) h)

    pub ends-else : (r ≡ length f → ⊥) → reads (outside true) (commands_at f i) ≡ none
    unfolding NextAs closes
    ends-else h = n.1 true ∙ if-false _ _ (blanks-only f k r s ∙ ne_eqb r (length f) h)
