-- Parts between two trees: in order in all but that a split may be listed by no tree yet. Assumes nothing.
--
--   Sound o p                   whole under the opening o, but for counts of 0
--   whole-sound, sound-whole    the parts of whole bytes are sound, and where they are, without counts of 0, the bytes are whole
--   parts_whole                 so are bytes with such parts, and with the opening and the length of bytes whose head is in order
use Rattle.std.specs.Prelude.{ℕ, ◌≤◌, ◌<◌, ◌≡◌, true, List, length}
use Rattle.std.proofs.Common.{ap}
use Rattle.trees.specs.Plain.{every}
use Rattle.trees.specs.Opening.{Opening}
use Rattle.trees.specs.Hash.{place}
use Rattle.trees.specs.Whole.{good_length}
use Rattle.head.specs.Head.{numbers_at, opening_at}
use Rattle.layout.specs.Store.{Parts, parts_at, splits_in, trees_in, count_in, branches_in, length_in, ran_over_open}
use Rattle.layout.specs.StoreLaws.{size_is, Shaped, shaped-at}
use Rattle.layout.specs.WholeStore.{listed_in, whole_at}
use Rattle.layout.specs.WholeFacts.{HeadAt, SplitsIn, ListIn, ChainsIn, whole-at-facts, facts-whole-at}

pub record Sound (o : Opening) (p : Parts) : Type 0 where
  pub shaped : Shaped o.numbers p
  pub splits : SplitsIn o.numbers.taxa o.second p
  pub lists : (i : ℕ) → i < trees_in p → ListIn p i
  pub counts : (k : ℕ) → k < splits_in p → count_in p k ≡ listed_in p k (trees_in p)
  pub chains : ChainsIn (place o.first o.numbers.places) o.numbers.places p
  pub lanes : (l : ℕ) → l < o.numbers.lanes → length_in p l ≤ ran_over_open
  pub branches : (i : ℕ) → i < trees_in p → every good_length (branches_in p i) ≡ true

pub whole-sound : (s : List ℕ) → whole_at s ≡ true → Sound (opening_at s) (parts_at s)
unfolding opening_at
whole-sound s e =
    let w = whole-at-facts s e in
    record {
      shaped = shaped-at s;
      splits = w.splits;
      lists = w.lists;
      counts = λ k h. (w.counts k h).counted;
      chains = w.chains;
      lanes = w.lanes;
      branches = w.branches;
    }

pub sound-whole : (s : List ℕ) → HeadAt s → Sound (opening_at s) (parts_at s) → ((k : ℕ) → k < splits_in (parts_at s) → 1 ≤ count_in (parts_at s) k) → whole_at s ≡ true
unfolding opening_at
sound-whole s h f g =
    facts-whole-at s
    record {
      head = h;
      splits = f.splits;
      lists = f.lists;
      counts = λ k l. record { some-tree = g k l; counted = f.counts k l };
      chains = f.chains;
      lanes = f.lanes;
      branches = f.branches;
    }

-- ---- bytes with the opening of others

numbers_of : (s t : List ℕ) → opening_at t ≡ opening_at s → numbers_at t ≡ numbers_at s
unfolding opening_at
numbers_of s t o = ap (λ (x : Opening). x.numbers) o

pub parts_whole : (s t : List ℕ) (q : Parts) → HeadAt s → length t ≡ length s → opening_at t ≡ opening_at s → parts_at t ≡ q → Sound (opening_at s) q
    → trees_in q ≤ (numbers_at s).tree_room → splits_in q ≤ (numbers_at s).split_room → ((k : ℕ) → k < splits_in q → 1 ≤ count_in q k) → whole_at t ≡ true
parts_whole s t q h size o e f a b g =
    let n = numbers_of s t o in
    sound-whole t
    record {
      head-there = rw size h.head-there;
      opening-good = rw o h.opening-good;
      reached = rw (size, size_is t, n, ← size_is s) h.reached;
      trees-fit = rw (e, n) a;
      splits-fit = rw (e, n) b;
    }
    (rw (o, e) f) (rw e g)
