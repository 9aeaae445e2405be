-- Laws of the line of a tree that is there. Assumes nothing.
--
--   begun-later, closes-later, moves-later, ends-later, later-texts     behind the TREES block no text comes
--   with-text          a text, and what is read behind it
--   line-fits, line-text     a line's text begins inside it, and is what is read first
--   line-wrong, line-end     no line of a tree
use Rattle.std.specs.Prelude.{ℕ, suc, ◌+◌, ◌-◌, ◌≤◌, ◌<◌, refl, Bool, true, false, List, [], ◌∷◌, drop, if◌then◌else◌}
use Rattle.std.proofs.Common.{arith, sym, ap₂, ◌∙◌, length-take}
use Rattle.std.proofs.Math.Path.{◌≡◌, ap}
use Rattle.std.proofs.Math.Option.{Option, none, some}
use Rattle.std.proofs.Math.ListN.{length}
use Rattle.trees.specs.Plain.{every}
use Rattle.trees.specs.Text.{is_blank}
use Rattle.trees.specs.Nexus.{uncommented, is_word, Pair, File}
use Rattle.trees.specs.NexusReading.{two_tokens, ends_other, outside, in_other, in_trees, Move, wrong, to, brings, block_begun, moved, with_text, closes, reads_on, reads}
use Rattle.nexus.specs.declared.tokens.Token.{Token}
use Rattle.nexus.specs.declared.lines.Line.TheVariants as line
use Rattle.nexus.specs.Places.{part, plain_at, commands_at, CommandEnd}
use Rattle.nexus.specs.PartLaws.{part_of}
use Rattle.nexus.specs.Commands.{LineMoves}
use Rattle.nexus.specs.ReadsLaws.{reads-last, reads-moved}
use Rattle.nexus.specs.Verdicts.{LineAt}

-- ---- behind the TREES block

none-some : {A : Type 0} (x : A) → ◌≡◌ {A = Option A} none (some x) → ⊥
none-some x e = let z : ◌≡◌ {A = ℕ} 0 1 = cc in omega arith

abbrev NoTexts : Option File → Type 0
NoTexts r = (x : File) → r ≡ some x → x.texts ≡ []

-- what a command does outside the blocks that stand behind it
abbrev later : Bool → Bool → Move
later begin trees = if begin then if trees then wrong else to (in_other true) else wrong

begun-later : (p : Option Pair) → (b : Bool) × (t : Bool) × (block_begun true p ≡ later b t)
unfolding block_begun
begun-later none = (false, false, refl)
begun-later (some p) = (is_word "BEGIN" p.0, is_word "TREES" p.1, refl)

closes-later : (b : Bool) → NoTexts (if b then some (record { pairs = []; texts = [] }) else none)
closes-later true x e = ap (λ (o : Option File). elim o [ none ↦ [] | some y ↦ y.texts ]) (sym e)
closes-later false x e = absurd (none-some x e)

moves-later : (cs : List (List ℕ)) → NoTexts (reads (in_other true) cs) → (b t : Bool) → NoTexts (reads_on (later b t) (λ p. reads p cs))
unfolding reads_on
moves-later cs h true true x e = absurd (none-some x e)
moves-later cs h true false x e = h x e
moves-later cs h false t x e = absurd (none-some x e)

ends-later : (cs : List (List ℕ)) → NoTexts (reads (outside true) cs) → NoTexts (reads (in_other true) cs) → (b : Bool)
    → NoTexts (reads_on (if b then to (outside true) else to (in_other true)) (λ p. reads p cs))
unfolding reads_on
ends-later cs h g true x e = h x e
ends-later cs h g false x e = g x e

later-texts : (cs : List (List ℕ)) → NoTexts (reads (outside true) cs) × NoTexts (reads (in_other true) cs)
unfolding reads moved closes
later-texts [] = (λ x e. absurd (none-some x e), λ x e. absurd (none-some x e))
later-texts (c ∷ []) = (closes-later (every is_blank c), λ x e. absurd (none-some x e))
later-texts (c ∷ d ∷ cs) =
    let h = later-texts (d ∷ cs) in
    let b = begun-later (two_tokens c) in (
      λ x e. moves-later (d ∷ cs) h.1 b.0 b.1 x (ap (λ (m : Move). reads_on m (λ p. reads p (d ∷ cs))) (sym b.2) ∙ e),
      ends-later (d ∷ cs) h.0 h.1 (ends_other c),
    )

-- ---- the line of a tree

-- a file that gives these texts alone
abbrev pub only : List (List ℕ) → File
only ts = record { pairs = []; texts = ts }

unfoldable pub texts_of : Option File → List (List ℕ)
texts_of none = []
texts_of (some x) = x.texts

pairs_of : Option File → List Pair
pairs_of none = []
pairs_of (some x) = x.pairs

head_of : List (List ℕ) → List ℕ
head_of [] = []
head_of (t ∷ ts) = t

tail_of : List (List ℕ) → List (List ℕ)
tail_of [] = []
tail_of (t ∷ ts) = ts

with-text : (u t : List ℕ) (ts : List (List ℕ)) (x : Option File) → with_text u x ≡ some (only (t ∷ ts)) → (u ≡ t) × (x ≡ some (only ts))
unfolding with_text texts_of pairs_of head_of tail_of
with-text u t ts none e = absurd (none-some _ e)
with-text u t ts (some x) e = (
  ap (λ (o : Option File). head_of (texts_of o)) e,
  ap₂ (λ (ps : List Pair) (us : List (List ℕ)). some (record { pairs = ps; texts = us })) (ap pairs_of e) (ap (λ (o : Option File). tail_of (texts_of o)) e),
)

module _ (f : List ℕ) (i e : ℕ) (c : CommandEnd f i e) where
  -- a command without a semicolon is no line
  ended-not : (x : File) → reads (in_trees false) (commands_at f i) ≡ some x → e ≡ length f → ⊥
  unfolding closes
  ended-not x h l = none-some x (sym (reads-last f i e c l (in_trees false)) ∙ h)

  inside : (x : File) → reads (in_trees false) (commands_at f i) ≡ some x → e < length f
  inside x h = omega (arith, ended-not x h, c.within)

  -- a text begins inside its line
  pub line-fits : (j : ℕ) → LineMoves (part i e f) (line.Text j) → i + j ≤ e
  line-fits j l =
      omega (arith, l.within j refl, length-take (e - i) (drop i f), c.past)

  pub line-text : (j : ℕ) → LineMoves (part i e f) (line.Text j) → i + j ≤ e → LineAt f i (record { from = i + j; end = e })
  unfolding reads_on
  line-text j l b = record {
    past = omega arith;
    order = b;
    within = c.within;
    gives = λ t ts h.
        let d = inside (only (t ∷ ts)) h in
        let q = with-text (plain_at (part i e f) j) t ts _ (sym (reads-moved f i e c d (in_trees false) (brings (plain_at (part i e f) j)) l.moves) ∙ h) in
        (d, ap (uncommented false) (sym (part_of f i e j b c.within)) ∙ q.0, q.1);
  }

  abbrev nowhere : Token
  nowhere = record { from = e; end = e }

  -- no text stands there
  nothing-there : ((t : List ℕ) (ts : List (List ℕ)) → reads (in_trees false) (commands_at f i) ≡ some (only (t ∷ ts)) → ⊥) → LineAt f i nowhere
  nothing-there n = record { past = c.past; order = omega arith; within = c.within; gives = λ t ts h. absurd (n t ts h) }

  pub line-wrong : LineMoves (part i e f) line.Wrong → LineAt f i nowhere
  unfolding reads_on
  line-wrong l = nothing-there (λ t ts h. none-some _ (sym (reads-moved f i e c (inside _ h) (in_trees false) wrong l.moves) ∙ h))

  pub line-end : LineMoves (part i e f) line.End → LineAt f i nowhere
  unfolding reads_on
  line-end l = nothing-there (λ t ts h.
      let q = (later-texts (commands_at f (e + 1))).0 _ (sym (reads-moved f i e c (inside _ h) (in_trees false) (to (outside true)) l.moves) ∙ h) in
      let z : ◌≡◌ {A = ℕ} (suc (length ts)) 0 = ap length q in
      omega arith)
