use Rattle.std.proofs.{Common.{List, Bool, ◌<◌, ap, ◌∙◌, slice_set, length, arith}, lemmas.List.{length-take}, Math.Seq.{take-set-lt}}
use Rattle.p25_packet_blocks.proofs.flags.Flags.set.Goals as goal

pub returns : goal.returns
returns c =
    let held : c.args.i < c.self.inside.count = omega (arith, ap length c.self.view_is, length-take c.self.inside.count c.self.inside.flags) in
    take-set-lt c.self.inside.count c.self.inside.flags c.args.i c.args.flag held ∙ ap (λ (xs : List Bool). slice_set xs c.args.i c.args.flag) c.self.view_is
