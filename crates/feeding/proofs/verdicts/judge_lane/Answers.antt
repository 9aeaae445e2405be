-- `feeding::verdicts::judge_lane` meets its contract: the verdict on the lane's bytes. Assumes nothing.
use Prim.Native.Nat.{◌+◌}
use mathlib.Core.Path.{ap}
use native.Mathlib.Omega.{arith}
use lib.ListN.{length, drop, length-take}
use Rattle.layout.specs.Store.{lane_from}
use Rattle.layout.specs.WholeFacts.{whole-at-facts}
use Rattle.feeding.proofs.verdicts.judge_lane.Goals as goal

pub judge_text-requires : goal.judge_text-requires
judge_text-requires c =
    let w = (whole-at-facts _ c.requires.s_value).head in
    let few = length-take c.args.n (drop (lane_from c.args.l.0 + 8) c.args.s.now) in record { prepared = record { reach = w.head-there; good = w.opening-good; indexed = c.requires.indexed }; text_len_bound = omega (arith, ap length c.text_of.ensures, few, c.requires.n_le_most_text); most_words_in_bounds = c.requires.most_words_in_bounds }

pub returns : goal.returns
returns c = rw (← c.text_of.ensures) c.judge_text.ensures
