-- A piece with many texts, fed in one call.
--
--   texts_in q p           how many texts the piece p ends; q: whether quotes are open before it
--   verdict_number a       a verdict as a number: the refusal's, or 256 more than the tree's
--   is_refusal v           the verdict v is a refusal's number
--   none_accepted vs       so are all the verdicts vs
--   refused_in vs          how many of the verdicts vs are refusals
--   refused_after n a      n refused texts, and one more where the closing's answer a is a refusal
--   Batched               the verdicts, and what is held afterwards
--   batching n h l p      feeding the piece p to lane l again and again, each time the rest: n texts, and what is behind them
--   batch h l p room      the same as a call, with room for so many verdicts
use Rattle.std.specs.Prelude.{ℕ, zero, suc, ◌+◌, Bool, List, [], ◌∷◌, ltb, length, drop, if◌then◌else◌}
use Rattle.trees.specs.Plain.{every, keep, Answer, refused, gives}
use Rattle.trees.specs.Text.{turned, ends_text}
use Rattle.trees.specs.Held.{Held, Progress, more_wanted, accepted, lane_of, open_in, feeding}

unfoldable pub texts_in : Bool → List ℕ → ℕ
unfolding ends_text turned
texts_in q [] = 0
texts_in q (b ∷ p) =
    let n = texts_in (turned q b) p in
    if ends_text q b then suc n else n

-- refusals are below 256
unfoldable pub verdict_number : Answer Progress → ℕ
verdict_number (refused k) = k
verdict_number (gives more_wanted) = 0
verdict_number (gives (accepted t)) = 256 + t

-- an accepted tree's number counts from 256
abbrev pub is_refusal : ℕ → Bool
is_refusal v = ltb v 256

unfoldable pub none_accepted : List ℕ → Bool
unfolding every
none_accepted vs = every is_refusal vs

unfoldable pub refused_in : List ℕ → ℕ
unfolding keep
refused_in vs = length (keep is_refusal vs)

-- "a refused closing included"
unfoldable pub refused_after : ℕ → Answer (Unit {0}) → ℕ
refused_after n (refused k) = suc n
refused_after n (gives x) = n

pub record Batched : Type 0 where
  pub verdicts : List ℕ
  pub after : Held

-- one verdict more, before the others
unfoldable pub with_verdict : ℕ → Batched → Batched
with_verdict v b = record { verdicts = v ∷ b.verdicts; after = b.after }

-- exactly what feeding gives when it is called again and again on the rest
unfoldable pub batching : ℕ → Held → ℕ → List ℕ → Batched
unfolding feeding verdict_number with_verdict
batching zero h l p = record { verdicts = []; after = (feeding h l p).after }
batching (suc n) h l p =
    with_verdict (verdict_number (feeding h l p).answer) (batching n (feeding h l p).after l (drop (feeding h l p).taken p))

-- 5: "no such lane"; 4: "a lent buffer is too short for the whole answer", before anything is taken
unfoldable pub batch : Held → ℕ → List ℕ → ℕ → Answer Batched
unfolding lane_of open_in texts_in batching
batch h l p room =
    let n = texts_in (open_in (lane_of h l)) p in
    if ltb l h.opening.numbers.lanes then
    if ltb room n then refused 4 else gives (batching n h l p)
    else refused 5
