-- Laws of the keys of a list, by their places. Assumes nothing.
--
--   part_slice                           the bytes of a text between two places, as crate head says it
--   key-slice, key-same, key-unlike      the key of a pair, and other bytes that are as many, or not
--   keys-compared                        two keys, compared
--   keys_length, keys-at                 the keys, and the key of pair j
--   differ-not, differ-next, differ-end  no key comes twice, a pair at a time
--   again-here, again-next, again-end    a key sought among others
--   found_here, found-out                what a search that ends says of a token
--   name-stays, found-below, name-found  the name of a token that is no key, and the pair and the name of one that is
use Prim.Native.Nat.{ℕ, zero, suc, ◌+◌, ◌-◌, ◌*◌, ◌≤◌, ◌<◌}
use Rattle.std.proofs.Common.{add-one, arith, sym, ◌∙◌, drop_of_length-le, drop-cons}
use Rattle.std.specs.Prelude.{◌≡◌, Bool, ◌&&◌, ◌||◌, length, get_or, drop, if◌then◌else◌}
use Rattle.std.proofs.Math.Path.{refl, ap}
use Rattle.std.proofs.Math.Bool.{true, false, not}
use mathlib.Core.List.{List, [], ◌∷◌}
use Rattle.std.specs.Prelude.{Some, None}
use Rattle.std.proofs.Math.Option.{none, some}
use Rattle.std.proofs.Math.Seq.{slice}
use Rattle.trees.specs.Plain.{same_bytes, in_names}
use Rattle.trees.specs.Names.{taxon_from, different}
use Rattle.trees.specs.Nexus.{Pair}
use Rattle.trees.specs.NexusCall.{keys_of, name_of}
use Rattle.head.specs.Head.{from_to, up_to}
use Rattle.head.specs.HeadLaws.{run-slice, up_to-length, up_to-at}
use Rattle.head.specs.Index.{Sought}
use Rattle.head.specs.FindLaws.{run-unlike, sought-here, sought-out, found_at, found_nothing}
use Rattle.nexus.specs.Places.{part}
pub use Rattle.nexus.specs.PartLaws.{part_length}
use Rattle.nexus.specs.Commands.{pairs_from, pairs_in, pair_at}
use Rattle.nexus.specs.Keys.{key_in, FoundAs}

-- ---- the bytes between two places

module _ (s : List ℕ) (b e : ℕ) (h : b ≤ e) where
  pub part_slice : part b e s ≡ slice b e s
  part_slice = let p : b + (e - b) ≡ e = omega arith in run-slice b (e - b) s ∙ rw p

-- the key of pair i, from a up to z, and other bytes
module _ (s ps : List ℕ) (i a z : ℕ) (p : a ≡ get_or ps (4 * i) 0) (q : z ≡ get_or ps (4 * i + 1) 0) (h : a ≤ z) where
  key-part : key_in s ps i ≡ part a z s
  key-part = rw (← p, ← q)

  pub key-slice : key_in s ps i ≡ slice a z s
  key-slice = key-part ∙ part_slice s a z h

  module _ (t : List ℕ) (b e : ℕ) (k : b ≤ e) where
    pub key-same : same_bytes (slice a z s) (slice b e t) ≡ same_bytes (key_in s ps i) (part b e t)
    key-same = rw (key-slice, part_slice t b e k)

    pub key-unlike : z ≤ length s → e ≤ length t → (z - a ≡ e - b → ⊥) → same_bytes (key_in s ps i) (part b e t) ≡ false
    key-unlike f g n =
        rw key-part
        (run-unlike (part a z s) (part b e t) (λ r. n (sym (part_length s a z h f) ∙ r ∙ part_length t b e k g)))

-- the keys of pairs j and i, that of i from b up to e
pub keys-compared : (s ps : List ℕ) (i j b e : ℕ) (r t : Bool) → b ≡ get_or ps (4 * i) 0 → e ≡ get_or ps (4 * i + 1) 0
    → r ≡ same_bytes (key_in s ps j) (part b e s) → r ≡ t → same_bytes (key_in s ps j) (key_in s ps i) ≡ t
keys-compared s ps i j b e r t p q f g = rw (← p, ← q) (sym f ∙ g)

-- ---- the keys of the pairs

module _ (s ps : List ℕ) where
  keys_from : (j n : ℕ) → keys_of (pairs_from s ps j n) ≡ from_to (key_in s ps) j n
  unfolding keys_of pairs_from from_to
  keys_from j zero = refl
  keys_from j (suc n) = ap (λ (l : List (List ℕ)). key_in s ps j ∷ l) (keys_from (suc j) n)

  module _ (n : ℕ) where
    keys-up_to : keys_of (pairs_in s n ps) ≡ up_to (key_in s ps) n
    unfolding pairs_in up_to
    keys-up_to = keys_from 0 n

    pub keys_length : length (keys_of (pairs_in s n ps)) ≡ n
    keys_length = ap length keys-up_to ∙ up_to-length (key_in s ps) n

    pub keys-at : (j : ℕ) → j < n → get_or (keys_of (pairs_in s n ps)) j [] ≡ key_in s ps j
    keys-at j h = ap (λ (l : List (List ℕ)). get_or l j []) keys-up_to ∙ up_to-at (key_in s ps) n j [] h

    keys-cons : (j : ℕ) → j < n
        → drop j (keys_of (pairs_in s n ps)) ≡ key_in s ps j ∷ drop (j + 1) (keys_of (pairs_in s n ps))
    keys-cons j h =
        let l = keys_length in
        rw (add-one j, ← (keys-at j h)) (drop-cons (keys_of (pairs_in s n ps)) j [] (omega arith))

    keys_none : (j : ℕ) → n ≤ j → drop j (keys_of (pairs_in s n ps)) ≡ []
    keys_none j h =
        let l : length (keys_of (pairs_in s n ps)) ≤ j = rw keys_length h in
        drop_of_length-le (keys_of (pairs_in s n ps)) l

    -- ---- no key comes twice: r says whether the key of pair j comes again

    module _ (j : ℕ) (h : j < n) where
      pub differ-not : (r : Bool) → r ≡ in_names (key_in s ps j) (drop (j + 1) (keys_of (pairs_in s n ps))) → r ≡ true
          → different (drop j (keys_of (pairs_in s n ps))) ≡ false
      unfolding different
      differ-not r e q = ap different (keys-cons j h) ∙ ap (λ b. not b && different (drop (j + 1) (keys_of (pairs_in s n ps)))) (sym e ∙ q)

      pub differ-next : (r : Bool) → r ≡ in_names (key_in s ps j) (drop (j + 1) (keys_of (pairs_in s n ps))) → r ≡ false
          → different (drop j (keys_of (pairs_in s n ps))) ≡ different (drop (j + 1) (keys_of (pairs_in s n ps)))
      unfolding different
      differ-next r e q = ap different (keys-cons j h) ∙ ap (λ b. not b && different (drop (j + 1) (keys_of (pairs_in s n ps)))) (sym e ∙ q)

      pub again-here : (w : List ℕ) → same_bytes (key_in s ps j) w ≡ true → in_names w (drop j (keys_of (pairs_in s n ps))) ≡ true
      unfolding in_names
      again-here w q = ap (in_names w) (keys-cons j h) ∙ ap (λ b. b || in_names w (drop (j + 1) (keys_of (pairs_in s n ps)))) q

      pub again-next : (w : List ℕ) → same_bytes (key_in s ps j) w ≡ false
          → in_names w (drop j (keys_of (pairs_in s n ps))) ≡ in_names w (drop (j + 1) (keys_of (pairs_in s n ps)))
      unfolding in_names
      again-next w q = ap (in_names w) (keys-cons j h) ∙ ap (λ b. b || in_names w (drop (j + 1) (keys_of (pairs_in s n ps)))) q

    pub differ-end : (j : ℕ) → n ≤ j → different (drop j (keys_of (pairs_in s n ps))) ≡ true
    unfolding different
    differ-end j h = ap different (keys_none j h)

    pub again-end : (j : ℕ) → n ≤ j → (w : List ℕ) → in_names w (drop j (keys_of (pairs_in s n ps))) ≡ false
    unfolding in_names
    again-end j h w = ap (in_names w) (keys_none j h)

-- ---- a token sought

module _ (ks : List (List ℕ)) (w : List ℕ) (n : ℕ) (p : Sought ks w n) where
  pub found_here : (n ≡ 0 → ⊥) → same_bytes (get_or ks (n - 1) []) w ≡ true → FoundAs ks w (Some (n - 1))
  unfolding FoundAs
  found_here z q = (omega (arith, z, p.within), found_at _ _ (sought-here ks w n p z q))

  pub found-out : n ≡ 0 → FoundAs ks w None
  unfolding FoundAs
  found-out z = found_nothing _ (sought-out ks w n p z)

-- ---- its name

name-none : (ps : List Pair) (k : ℕ) (w : List ℕ) → taxon_from k (keys_of ps) w ≡ none → name_of ps w ≡ w
unfolding keys_of taxon_from name_of
name-none [] k w e = refl
name-none (p ∷ ps) k w e = go (same_bytes p.0 w) e (λ q. name-none ps (suc k) w q)
  where
    go : (t : Bool) → (if t then some k else taxon_from (suc k) (keys_of ps) w) ≡ none
        → (taxon_from (suc k) (keys_of ps) w ≡ none → name_of ps w ≡ w) → (if t then p.1 else name_of ps w) ≡ w
    go true q f = cc
    go false q f = f q

module _ (s ps : List ℕ) (w : List ℕ) where
  name-from : (j n i : ℕ) → taxon_from j (keys_of (pairs_from s ps j n)) w ≡ some i → name_of (pairs_from s ps j n) w ≡ (pair_at s ps i).1
  unfolding keys_of pairs_from taxon_from name_of
  name-from j zero i e = cc
  name-from j (suc n) i e = go (same_bytes (key_in s ps j) w) e (λ q. name-from (suc j) n i q)
    where
      go : (t : Bool) → (if t then some j else taxon_from (suc j) (keys_of (pairs_from s ps (suc j) n)) w) ≡ some i
          → (taxon_from (suc j) (keys_of (pairs_from s ps (suc j) n)) w ≡ some i → name_of (pairs_from s ps (suc j) n) w ≡ (pair_at s ps i).1)
          → (if t then (pair_at s ps j).1 else name_of (pairs_from s ps (suc j) n) w) ≡ (pair_at s ps i).1
      go true q f = let h : j ≡ i = cc in rw h
      go false q f = f q

  pub name-stays : (n : ℕ) → FoundAs (keys_of (pairs_in s n ps)) w None → name_of (pairs_in s n ps) w ≡ w
  unfolding FoundAs
  name-stays n p = name-none (pairs_in s n ps) 0 w p

  module _ (n i : ℕ) (p : FoundAs (keys_of (pairs_in s n ps)) w (Some i)) where
    pub found-below : i < n
    unfolding FoundAs
    found-below = omega (arith, p.0, keys_length s ps n)

    pub name-found : (b e : ℕ) → b ≡ get_or ps (4 * i + 2) 0 → e ≡ get_or ps (4 * i + 3) 0 → name_of (pairs_in s n ps) w ≡ part b e s
    unfolding FoundAs pairs_in
    name-found b e f g = name-from 0 n i p.1 ∙ rw (← f, ← g)
