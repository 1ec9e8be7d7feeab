use Rattle.std.proofs.Common.{◌≡◌, ◌+◌, arith}
use Rattle.regions.specs.Regions.{live_in}
use Rattle.regions.specs.Laws.Entries.{live_rest}
use Rattle.regions.proofs.live_count.Goals as goal

pub returns : goal.returns
returns c =
    let all : live_in c.args.names.now + c.count.result ≡ 64 = rw c.count.ensures (live_rest c.args.names.now) in
    omega arith
