-- Lent bytes behind a head that is written, emptied.
--
--   empty_parts n          the parts of a store of the numbers n that holds nothing
--   LanesEmptied s n t    the first n lanes of t are empty; its length, its head and the bytes behind these lanes are those of s
--   Emptied s t           every lane and every chain of t is empty; its length, its head and the bytes past the store's size are those of s
use Rattle.std.specs.Prelude.{ℕ, ◌+◌, ◌*◌, ◌≤◌, ◌<◌, ◌≡◌, List, [], length, get_or, replicate}
use Rattle.trees.specs.Opening.{Numbers, head_bytes}
use Rattle.trees.specs.Held.{holding}
use Rattle.fields.specs.Field.{number}
use Rattle.head.specs.Head.{numbers_at}
use Rattle.layout.specs.Store.{lane_from, places_from, size_at, Parts}

-- no splits and no trees; the chain of every place, and every lane, empty
abbrev pub empty_parts : Numbers → Parts
empty_parts n = record {
  masks = [];
  identifiers = [];
  counts = [];
  links = [];
  order = [];
  starts = replicate n.places 0;
  lists = [];
  branches = [];
  lengths = replicate n.lanes 0;
  texts = replicate n.lanes (holding []);
}

pub record LanesEmptied (s : List ℕ) (n : ℕ) (t : List ℕ) : Type 0 where
  pub size : length t ≡ length s
  pub head : (i : ℕ) → i < head_bytes → get_or s i 0 ≡ get_or t i 0
  pub lanes : (l : ℕ) → l < n → number 2 t (lane_from l) ≡ 0
  pub behind : (i : ℕ) → lane_from n ≤ i → get_or t i 0 ≡ get_or s i 0

pub record Emptied (s t : List ℕ) : Type 0 where
  pub size : length t ≡ length s
  pub head : (i : ℕ) → i < head_bytes → get_or s i 0 ≡ get_or t i 0
  pub lanes : (l : ℕ) → l < (numbers_at s).lanes → number 2 t (lane_from l) ≡ 0
  pub starts : (q : ℕ) → q < (numbers_at s).places → number 2 t (places_from (numbers_at s) + 2 * q) ≡ 0
  pub behind : (i : ℕ) → size_at s ≤ i → get_or t i 0 ≡ get_or s i 0
