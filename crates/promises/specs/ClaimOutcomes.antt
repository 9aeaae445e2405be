-- The promise of the claim that a text is the majority tree leaves one outcome: the answer. Both are lent to be read. Assumes nothing.
--
--   claim-once     a claim
use Rattle.claiming.proofs.claim.Reads as claim
use Rattle.promises.specs.Once.{AnswerOnce}
use Rattle.promises.specs.Outcomes.{claim-one, both}

pub claim-once : AnswerOnce claim.Post
claim-once k x q r y z a b = claim-one q r (both a b)
