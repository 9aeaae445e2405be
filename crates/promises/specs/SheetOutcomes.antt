-- The promises of the lines of a sheet, of the release sheet, and of refusals in words, leave one outcome each: the answer, and every byte of the buffer. Assumes nothing.
--
--   lines-once, refusal-line-once     giving lines of the sheet, or that of a refusal
--   write-release-once                the release sheet
--   reason-once                       a refusal's sentence
use Rattle.std.specs.Prelude.{◌≡◌}
use Rattle.sheet.proofs.lines.Reads as lines
use Rattle.sheet.proofs.refusal_line.Reads as refusal-line
use Rattle.release.proofs.write_release.Reads as write-release
use Rattle.reasons.proofs.reason.Reads as reason
use Rattle.promises.specs.Once.{Once, arg2, arg4}
use Rattle.promises.specs.Outcomes.{both, lengths-both, filled-both}

pub lines-once : Once lines.Post (λ x q r y z. (q ≡ r) × ((arg4 y).now ≡ (arg4 z).now))
lines-once k x q r y z a b = (lengths-both q r a.0 b.0, both a.1 b.1)

pub refusal-line-once : Once refusal-line.Post (λ x q r y z. (q ≡ r) × ((arg2 y).now ≡ (arg2 z).now))
refusal-line-once k x q r y z a b = filled-both q r a b

pub write-release-once : Once write-release.Post (λ x q r y z. (q ≡ r) × ((arg4 y).now ≡ (arg4 z).now))
write-release-once k x q r y z a b = filled-both q r a b

pub reason-once : Once reason.Post (λ x q r y z. (q ≡ r) × ((arg2 y).now ≡ (arg2 z).now))
reason-once k x q r y z a b = filled-both q r a b
