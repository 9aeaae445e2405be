-- What the calls that compare trees answer of whole bytes, by what the bytes hold. Assumes nothing.
--
--   pair f a b                                     a question f of the trees a and b
--   one-sided-pair, doubled-pair                   the distances of two trees are such questions
--   first-missing, second-missing, both-there      their returns: 13 for either tree, or the number
--   square-of, entries-few                         how many entries a matrix has
--   matrix-short, matrix-given                     the doubled distances of all pairs
--   collisions-found                               the collision number
use Rattle.std.specs.Prelude.{ℕ, ◌*◌, ◌≤◌, ◌<◌, ◌≡◌, true, List, ◌++◌, length, drop, Ok, Err}
use Rattle.std.proofs.Math.Path.{refl, ap}
use Rattle.std.proofs.Common.{sym, ap₂, ◌∙◌}
use Rattle.trees.specs.Plain.{Answer, gives}
use Rattle.trees.specs.Held.{Held}
use Rattle.trees.specs.Distance.{one_sided, doubled, matrix}
use Rattle.trees.specs.Hash.{collisions}
use Rattle.trees.specs.Questions.{if_room, if_tree, tree, one_sided_of, doubled_of, matrix_of, collisions_of}
use Rattle.theorems.specs.MatrixLaws.{matrix-length}
use Rattle.answers.specs.declared.Refusal.TheVariants as why
use Rattle.answers.specs.Answers.{number_given}
use Rattle.answers.specs.Filled.{FilledAs}
use Rattle.answers.specs.AnswerLaws.{number-refused, number-given, filled-short, filled-given}
use Rattle.head.specs.Head.{numbers_at, first_at, second_at, opening_at}
use Rattle.layout.specs.Store.{trees_held_at, tree_at, masks_at, held_at, held_in}
use Rattle.layout.specs.WholeStore.{whole_at}
use Rattle.store.specs.RecordedAtLaws.{trees-length, tree-at, recorded-at}
use Rattle.store.specs.Lent.{if_whole}
use Rattle.store.specs.LentLaws.{when_whole, tree-missing, tree-there, asked-missing, asked-there}
use Rattle.layout.specs.WholeFacts.{whole-at-facts}
use Rattle.layout.specs.InsideLaws.{trees-few}
use Rattle.distances.specs.EntryLaws.{square-few}
use Rattle.comparing.specs.Asked.{one_sided_asked, doubled_asked, matrix_asked, collisions_asked}

-- ---- two trees

abbrev pub pair : (List ℕ → List ℕ → ℕ) → ℕ → ℕ → Held → Answer ℕ
pair f a b h = if_tree h a (if_tree h b (gives (f (tree h a) (tree h b))))

module _ (s : List ℕ) (a b : ℕ) where
  pub one-sided-pair : one_sided_asked s a b ≡ if_whole s (pair one_sided a b)
  unfolding one_sided_of
  one-sided-pair = refl

  pub doubled-pair : doubled_asked s a b ≡ if_whole s (pair doubled a b)
  unfolding doubled_of
  doubled-pair = refl

module _ (f : List ℕ → List ℕ → ℕ) (s : List ℕ) (w : whole_at s ≡ true) (a b : ℕ) (x : Answer ℕ) (is : x ≡ if_whole s (pair f a b)) where
  -- what is asked behind the first tree
  abbrev second : Held → Answer ℕ
  second h = if_tree h b (gives (f (tree h a) (tree h b)))

  pub first-missing : trees_held_at s ≤ a → number_given (Err why.NoSuchNumber) ≡ x
  first-missing h = number-refused x why.NoSuchNumber (is ∙ asked-missing s w second a h)

  module _ (h : a < trees_held_at s) where
    pub second-missing : trees_held_at s ≤ b → number_given (Err why.NoSuchNumber) ≡ x
    second-missing k = number-refused x why.NoSuchNumber (is ∙ asked-there s w second a h ∙ tree-missing s b _ k)

    pub both-there : b < trees_held_at s → (n : ℕ) → n ≡ f (tree_at s a) (tree_at s b) → number_given (Ok n) ≡ x
    unfolding tree
    both-there k n e =
        number-given x n _ (is ∙ asked-there s w second a h ∙ tree-there s b _ k ∙ ap gives (ap₂ f (tree-at s a h) (tree-at s b k))) e

-- ---- all pairs

pub square-of : (n m : ℕ) → n ≡ m → n * n ≡ m * m
square-of n m e = ap (λ (x : ℕ). x * x) e

pub entries-few : (s : List ℕ) → whole_at s ≡ true → trees_held_at s * trees_held_at s ≤ 1048576
entries-few s w = square-few (trees_held_at s) (trees-few s (whole-at-facts s w).head)

module _ (s out : List ℕ) (w : whole_at s ≡ true) where
  entries : length (matrix (held_at s).trees) ≡ trees_held_at s * trees_held_at s
  entries = matrix-length (held_at s).trees ∙ square-of (length (held_at s).trees) (trees_held_at s) (trees-length s)

  matrix-found : matrix_asked s (length out) ≡ if_room (length out) (matrix (held_at s).trees)
  unfolding matrix_of
  matrix-found = when_whole s (λ z. matrix_of z (length out)) w

  -- 4
  pub matrix-short : length out < trees_held_at s * trees_held_at s → FilledAs (matrix_asked s (length out)) (Err why.TooShort) out out
  matrix-short h = filled-short _ out _ matrix-found (rw entries h)

  pub matrix-given : (n : ℕ) (m : List ℕ) → n ≡ trees_held_at s * trees_held_at s → n ≤ length out
      → m ≡ matrix (held_at s).trees ++ drop (trees_held_at s * trees_held_at s) out
      → FilledAs (matrix_asked s (length out)) (Ok n) out m
  matrix-given n m e h p = filled-given _ out _ matrix-found n m (e ∙ sym entries) h (rw entries p)

-- ---- the collision number

module _ (s : List ℕ) where
  collisions-held : collisions (held_at s).opening.first (held_at s).opening.second (held_at s).opening.numbers.places (masks_at s)
      ≡ collisions (first_at s) (second_at s) (numbers_at s).places (masks_at s)
  unfolding held_in opening_at
  collisions-held = refl

  pub collisions-found : whole_at s ≡ true → collisions_asked s ≡ gives (collisions (first_at s) (second_at s) (numbers_at s).places (masks_at s))
  unfolding collisions_of
  collisions-found w = when_whole s collisions_of w ∙ rw (recorded-at s w) (ap gives collisions-held)
