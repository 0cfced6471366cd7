use Rattle.archive.proofs.sight.Sight.turned_bits.Goals as goal

pub returns-clause-bits : goal.returns-clause-bits
returns-clause-bits c =
    let moment = c.args.self.now.moment in c.turned_bits.ensures.bits moment.stamp moment.day_first c.requires
