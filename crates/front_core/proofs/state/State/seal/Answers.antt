use Rattle.front_core.proofs.state.State.seal.Goals as goal

pub seal_these-requires-clause-held : goal.seal_these-requires-clause-held
seal_these-requires-clause-held c = (c.requires.held.0, c.reserve.ensures.same.held c.requires.held.0 c.requires.held.1)
