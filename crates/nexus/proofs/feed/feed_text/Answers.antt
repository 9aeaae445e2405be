-- `nexus::feed::feed_text` meets its contract: the tree is judged by its keys, or its plain text is written, and judged. Assumes nothing.
use Rattle.std.specs.Prelude.{Result, Option, None, Some}
use Prim.Native.Nat.{ℕ}
use mathlib.Core.Path.{◌≡◌, subst}
use mathlib.Core.List.{List}
use Rattle.nexus.specs.Verdicts.{Hands}
use Rattle.nexus.specs.Keyed.{KeyedAs}
use Rattle.nexus.specs.FeedLaws.{judges-hands}
use Rattle.nexus.proofs.feed.feed_text.Goals as goal
use Rattle.answers.specs.declared.Refusal.{Refusal}
use Rattle.answers.specs.declared.Tree.{Tree}

-- nothing is told, and nothing is changed

unsure : (s x : List ℕ) (k : Option (Result (Option Tree) Refusal)) (t : List ℕ) → k ≡ None → KeyedAs s x k t → t ≡ s
unfolding KeyedAs
unsure s x k t e h = rw e at h

hands-as : (s x : List ℕ) (r : Result (Option Tree) Refusal) (t u : List ℕ) → t ≡ s → Hands t x r u → Hands s x r u
hands-as s x r t u e h = subst (λ z. Hands z x r u) e h

-- the verdict is told
told : (s x : List ℕ) (k : Option (Result (Option Tree) Refusal)) (t : List ℕ) (r : Result (Option Tree) Refusal) → k ≡ Some r → KeyedAs s x k t → Hands s x r t
unfolding KeyedAs
told s x k t r e h = rw e at h

pub judge_keys-k-requires : goal.judge_keys-k-requires
judge_keys-k-requires c = record { s_value = c.requires.s_value; indexed = c.requires.indexed; placed = c.requires.placed; indexed_2 = c.requires.indexed_2; places_value = c.requires.places_value }

pub judge_text-requires : goal.judge_text-requires
judge_text-requires c = let e = unsure _ _ _ _ c.in-None.is c.judge_keys-k.ensures in record { s_value = rw e c.requires.s_value; indexed = rw e c.requires.indexed; text_len = c.write_text-n.ensures.out_len_2 }

pub returns-in-Some : goal.returns-in-Some
returns-in-Some c = record { hands = told _ _ _ _ _ c.in-Some.is c.judge_keys-k.ensures; text_len_2 = c.requires.text_len }

pub returns-in-None : goal.returns-in-None
returns-in-None c = let e = unsure _ _ _ _ c.in-None.is c.judge_keys-k.ensures in record { hands = hands-as _ _ _ _ _ e (judges-hands _ _ _ _ _ _ c.write_text-n.ensures.text_as c.judge_text.ensures); text_len_2 = c.write_text-n.ensures.out_len_2 }
