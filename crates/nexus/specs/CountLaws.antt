-- Laws of the lines of the TREES block, as they are counted. Assumes nothing.
--
--   texts-append, texts-none, texts-all     texts before those of a file
--   Counting           the loop of `count_lines` has passed n lines
--   counting-none, counting_more     none, and one more
--   counting-end, counting-out, counting-wrong     they end with the block, with the file, or at a wrong command
use Rattle.std.specs.Prelude.{ℕ, ◌+◌, ◌≤◌, ◌<◌, ◌≡◌, refl, true, false, length}
use Rattle.std.proofs.Common.{arith, ◌∙◌}
use Rattle.std.proofs.Math.Path.{ap}
use mathlib.Core.List.{List, [], ◌∷◌, ◌++◌}
use Rattle.std.specs.Prelude.{None, Some}
use Rattle.std.proofs.Math.Option.{Option, none, some}
use Rattle.std.proofs.Math.ListN.{length-append}
use Rattle.trees.specs.Nexus.{File}
use Rattle.trees.specs.NexusReading.{outside, in_trees, wrong, to, brings, with_text, closes, reads_on, reads}
use Rattle.nexus.specs.declared.lines.Line.TheVariants as line
use Rattle.nexus.specs.Places.{part, plain_at, commands_at, CommandEnd}
use Rattle.nexus.specs.Commands.{LineMoves}
use Rattle.nexus.specs.Blocks.{with_texts, CountedAs}
use Rattle.nexus.specs.ReadsLaws.{reads-last, reads-moved}

-- ---- texts before those of a file

texts-append : (ts : List (List ℕ)) (t : List ℕ) (x : Option File) → with_texts ts (with_text t x) ≡ with_texts (ts ++ t ∷ []) x
unfolding with_texts
texts-append [] t x = refl
texts-append (u ∷ ts) t x = ap (with_text u) (texts-append ts t x)

pub texts-none : (ts : List (List ℕ)) → with_texts ts none ≡ none
unfolding with_texts with_text
texts-none [] = refl
texts-none (t ∷ ts) = ap (with_text t) (texts-none ts)

pub texts-all : (ts : List (List ℕ)) → with_texts ts (some (record { pairs = []; texts = [] })) ≡ some (record { pairs = []; texts = ts })
unfolding with_texts with_text
texts-all [] = refl
texts-all (t ∷ ts) = ap (with_text t) (texts-all ts)

-- ---- the lines of the TREES block

-- the loop has passed n lines from i up to k
pub record Counting (f : List ℕ) (i k n : ℕ) : Type 0 where
  pub within : k ≤ length f
  pub few : n ≤ k
  pub so_far : (ts : List (List ℕ)) × (length ts ≡ n) × (reads (in_trees false) (commands_at f i) ≡ with_texts ts (reads (in_trees false) (commands_at f k)))

pub counting-none : (f : List ℕ) (i : ℕ) → i ≤ length f → Counting f i i 0
unfolding with_texts
counting-none f i h = record { within = h; few = omega arith; so_far = ([], refl, refl) }

module _ (f : List ℕ) (i k n e : ℕ) (o : Counting f i k n) (c : CommandEnd f k e) where
  -- behind the lines so far, what is read from k on is x
  counted : (x : Option File) → reads (in_trees false) (commands_at f k) ≡ x → reads (in_trees false) (commands_at f i) ≡ with_texts o.so_far.0 x
  counted x h = o.so_far.2 ∙ ap (with_texts o.so_far.0) h

  pub counting-out : e ≡ length f → CountedAs f i None
  unfolding CountedAs closes
  counting-out h = counted none (reads-last f k e c h (in_trees false)) ∙ texts-none o.so_far.0

  module _ (m : e ≡ length f → ⊥) where
    inside : e < length f
    inside = omega (arith, m, c.within)

    pub counting-wrong : LineMoves (part k e f) line.Wrong → CountedAs f i None
    unfolding CountedAs reads_on
    counting-wrong l = counted none (reads-moved f k e c inside (in_trees false) wrong l.moves) ∙ texts-none o.so_far.0

    pub counting-end : LineMoves (part k e f) line.End → CountedAs f i (Some (record { trees = n; at = e + 1 }))
    unfolding CountedAs reads_on
    counting-end l =
        record {
          there = omega (arith, inside);
          texts = o.so_far.0;
          count = o.so_far.1;
          brings = counted _ (reads-moved f k e c inside (in_trees false) (to (outside true)) l.moves);
        }

    pub counting_more : (j : ℕ) → LineMoves (part k e f) (line.Text j) → Counting f i (e + 1) (n + 1)
    unfolding reads_on
    counting_more j l =
        let t = plain_at (part k e f) j in
        let ts = o.so_far.0 in
        let p = c.past in
        let q = o.few in
        let d = inside in
        record {
          within = omega arith;
          few = omega arith;
          so_far = (
            ts ++ t ∷ [],
            length-append ts (t ∷ []) ∙ ap (λ (x : ℕ). x + 1) o.so_far.1,
            counted _ (reads-moved f k e c inside (in_trees false) (brings t) l.moves) ∙ texts-append ts t (reads (in_trees false) (commands_at f (e + 1))),
          );
        }
