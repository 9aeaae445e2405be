-- From what the code finds to what reading promises: a law for each way in which the call returns. Assumes nothing.
--
--   first-undigit, first-large, first_ends     the first line, test by test
--   First f t start                    the first line of f says that there are t trees, and the rows begin at `start`
--   first-within, first_read           so it is where the line is good
--   values-fit                         how many values there are at most
--   read-unfirst, read-unrows, read-unsymmetric, read_short, read-given     the answers
use Rattle.std.specs.Prelude.{ℕ, ◌+◌, ◌*◌, ◌≤◌, ◌<◌, ◌≡◌, refl, Bool, true, false, ◌&&◌, List, ◌++◌, leb, ltb, length, drop, if◌then◌else◌, Ok, Err}
use Rattle.std.proofs.Common.{mul-le-mul, ◌∙◌}
use Rattle.std.proofs.Math.Path.{sym, ap}
use Rattle.std.proofs.Math.Option.{none, some}
use borrow.Author.Tests.{le-leb, lt-leb, leb-true, lt-ltb, le-ltb}
use Rattle.trees.specs.Plain.{Answer, refused, gives}
use Rattle.trees.specs.Length.{is_digit}
use Rattle.trees.specs.Nexus.{behind_run, begins}
use Rattle.trees.specs.Phylip.{most_trees, Square, square_in, symmetric}
use Rattle.trees.specs.PhylipCall.{read_phylip_of}
use Rattle.theorems.specs.ListLaws.{and_left, and_right}
use Rattle.answers.specs.declared.Refusal.{Refusal}
use Rattle.answers.specs.declared.Refusal.TheVariants as why
use Rattle.answers.specs.Answers.{refusal_number, refusing, number_given}
use Rattle.answers.specs.Filled.{front}
use Rattle.phylip.specs.declared.values.Reached.{Reached}
use Rattle.phylip.specs.Reading.{trees_given, values_given, ReadAs}
use Rattle.phylip.specs.Walk.{rest, is_byte, number, rows_read, are_rows, is_first, behind_first, is_square, square_read}
use Rattle.phylip.specs.SquareLaws.{square-in}
use Rattle.phylip.specs.Places.{NumberAt}
use Rattle.phylip.specs.PlaceLaws.{begins-within}
use Rattle.phylip.specs.PlaceRowLaws.{rest-next}
use Rattle.phylip.specs.Rows.{RowsAs}
use Rattle.phylip.specs.Symmetry.{symmetric_at}
use Rattle.phylip.specs.EntryLaws.{matrix, symmetric-rows}
use Rattle.phylip.specs.Filling.{rows_filled}
use Rattle.phylip.specs.FillingLaws.{rows-length, front-filled}

-- ---- the first line

module _ (f : List ℕ) where
  pub first-undigit : begins is_digit (rest f 0) ≡ false → is_first f ≡ false
  unfolding is_first rest
  first-undigit e = rw e

  module _ (r : Reached) (d : begins is_digit (rest f 0) ≡ true) (h : NumberAt f 0 r) where
    pub first-large : 1024 < r.value → is_first f ≡ false
    unfolding is_first rest
    first-large l = rw (d, ← h.is, lt-leb r.value 1024 l)

    pub first_ends : r.value ≤ 1024 → is_first f ≡ begins (is_byte 10) (rest f r.at)
    unfolding is_first rest
    first_ends l = rw (d, ← h.is, le-leb r.value 1024 l, ← h.behind)

pub record First (f : List ℕ) (t start : ℕ) : Type 0 where
  pub is : is_first f ≡ true
  pub trees : t ≡ number f
  pub few : t ≤ 1024
  pub rows : rest f start ≡ behind_first f

module _ (f : List ℕ) (r : Reached) (e : is_first f ≡ true) (h : NumberAt f 0 r) where
  first_rest : (leb (number f) most_trees && begins (is_byte 10) (behind_run is_digit f)) ≡ true
  unfolding is_first
  first_rest = and_right (begins is_digit f) (leb (number f) most_trees && begins (is_byte 10) (behind_run is_digit f)) e

  first_ended : begins (is_byte 10) (rest f r.at) ≡ true
  unfolding rest
  first_ended = rw h.behind (and_right (leb (number f) most_trees) (begins (is_byte 10) (behind_run is_digit f)) first_rest)

  pub first-within : r.at < length f
  first-within = begins-within (is_byte 10) f r.at first_ended

  pub first_read : First f r.value (r.at + 1)
  unfolding rest behind_first
  first_read = record {
    is = e;
    trees = h.is;
    few = rw h.is (leb-true (number f) 1024 (and_left (leb (number f) most_trees) (begins (is_byte 10) (behind_run is_digit f)) first_rest));
    rows = rest-next (is_byte 10) f r.at first_ended ∙ ap (drop 1) h.behind;
  }

pub values-fit : (t : ℕ) → t ≤ 1024 → t * t ≤ 1048576
values-fit t h = mul-le-mul h h

-- ---- the text

module _ (f : List ℕ) (room : ℕ) where
  answer-none : square_in f ≡ none → read_phylip_of f room ≡ refused 24
  unfolding read_phylip_of
  answer-none e = rw (e, read_phylip_of)

  answer-some : (q : Square) → square_in f ≡ some q → read_phylip_of f room ≡ (if symmetric q then (if ltb room (length q.values) then refused 4 else gives q) else refused 25)
  unfolding read_phylip_of
  answer-some q e = rw (e, read_phylip_of)

  answer-bad : is_square f ≡ false → read_phylip_of f room ≡ refused 24
  answer-bad e = answer-none (square-in f ∙ rw e)

  module _ (t start : ℕ) (h : First f t start) where
    square-is : is_square f ≡ are_rows t t (rest f start)
    unfolding is_square
    square-is = rw (h.is, h.trees, h.rows)

    square-read : square_read f ≡ matrix t (rest f start)
    unfolding square_read
    square-read = rw (h.trees, h.rows)

    answer-good : are_rows t t (rest f start) ≡ true
        → read_phylip_of f room ≡ (if symmetric (matrix t (rest f start)) then (if ltb room (length (rows_read t t (rest f start))) then refused 4 else gives (matrix t (rest f start))) else refused 25)
    answer-good e = answer-some (matrix t (rest f start)) (square-in f ∙ rw (square-is, e, square-read))

-- ---- the answers

read-refused : (x : Answer Square) (old : List ℕ) (r : Refusal) → x ≡ refusing r → ReadAs x (Err r) old old
unfolding number_given trees_given values_given front
read-refused x old r e = rw e (refl, refl)

read-gives : (x : Answer Square) (q : Square) (old m : List ℕ) (n : ℕ) → x ≡ gives q → n ≡ q.trees → m ≡ q.values ++ drop (length q.values) old
    → ReadAs x (Ok n) old m
unfolding number_given trees_given values_given front
read-gives x q old m n e a b = rw e (ap gives a, b)

module _ (f out : List ℕ) where
  pub read-unfirst : is_first f ≡ false → ReadAs (read_phylip_of f (length out)) (Err why.BadMatrix) out out
  unfolding is_square refusal_number
  read-unfirst e = read-refused (read_phylip_of f (length out)) out why.BadMatrix (answer-bad f (length out) (rw e))

  module _ (t start : ℕ) (h : First f t start) (b : Bool) (old at : List ℕ) (g : RowsAs f start t b old at) where
    pub read-unrows : b ≡ false → ReadAs (read_phylip_of f (length out)) (Err why.BadMatrix) out out
    unfolding refusal_number
    read-unrows e = read-refused (read_phylip_of f (length out)) out why.BadMatrix (answer-bad f (length out) (square-is f (length out) t start h ∙ sym g.is ∙ e))

    module _ (e : b ≡ true) where
      symmetric-is : symmetric_at f t at ≡ symmetric (matrix t (rest f start))
      symmetric-is = symmetric-rows f (rest f start) at t (g.stands e)

      good : read_phylip_of f (length out) ≡ (if symmetric_at f t at then (if ltb (length out) (length (rows_read t t (rest f start))) then refused 4 else gives (matrix t (rest f start))) else refused 25)
      good = rw symmetric-is (answer-good f (length out) t start h (sym g.is ∙ e))

      pub read-unsymmetric : symmetric_at f t at ≡ false → ReadAs (read_phylip_of f (length out)) (Err why.NotSymmetric) out out
      unfolding refusal_number
      read-unsymmetric s = read-refused (read_phylip_of f (length out)) out why.NotSymmetric (good ∙ rw s)

      module _ (s : symmetric_at f t at ≡ true) where
        pub read_short : length out < t * t → ReadAs (read_phylip_of f (length out)) (Err why.TooShort) out out
        unfolding refusal_number
        read_short l =
            read-refused (read_phylip_of f (length out)) out why.TooShort
            (good ∙ rw (s, rows-length t t (rest f start), lt-ltb (length out) (t * t) l))

        pub read-given : t * t ≤ length out → (m : List ℕ) → m ≡ rows_filled out 0 t t (rest f start) → ReadAs (read_phylip_of f (length out)) (Ok t) out m
        read-given l m q =
            read-gives (read_phylip_of f (length out)) (matrix t (rest f start)) out m t
            (good ∙ rw (s, rows-length t t (rest f start), le-ltb (length out) (t * t) l)) refl
            (q ∙ front-filled out t (rest f start) l)
