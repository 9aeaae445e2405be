-- `nexus::tokens::first_token` meets its contract. Assumes nothing.
use Rattle.nexus.specs.TokenLaws.{token-at}
use Rattle.nexus.proofs.tokens.first_token.Goals as goal

pub returns : goal.returns
returns c = token-at _ _ _ _ c.skip-at.ensures c.token_end.ensures
