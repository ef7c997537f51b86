use Rattle.meta_tests.proofs.area_tests.flip.Goals as goal

pub flip-requires : goal.flip-requires
flip-requires c = c.may_flip.ensures.forth c.if-not-may_flip.false c.args.on
