use Rattle.std.proofs.Common.{subst}
use Rattle.etm_types.specs.Settings.{AreSettings}
use Rattle.packet_reader.proofs.Endings.{ends_clean, ends_cut}
use Rattle.packet_reader.specs.Stands.{PacketReading}
use Rattle.packet_reader.proofs.reader.PacketReader.end_without_fault.Goals as goal

pub returns-then-count-eq0 : goal.returns-then-count-eq0
returns-then-count-eq0 c bytes packets ending stands is none =
    let are = subst (λ (r : PacketReading). AreSettings r.settings) c.self.view_is c.self.invariant.3 in
    let rest = c.rest-count.ensures.stream bytes stands in
    let found = (c.synced.ensures.found bytes stands).0 c.if-not-synced.false in
    ends_clean c.args.self.now.settings are bytes packets rest.0 ending rest.1 c.rest-count.result found is rest.2 rest.3 none c.if-count-eq0.true

pub returns-else-count-eq0 : goal.returns-else-count-eq0
returns-else-count-eq0 c bytes packets ending stands is none =
    let are = subst (λ (r : PacketReading). AreSettings r.settings) c.self.view_is c.self.invariant.3 in
    let rest = c.rest-count.ensures.stream bytes stands in
    ends_cut c.args.self.now.settings are bytes packets rest.0 ending rest.1 c.rest-count.result is rest.2 rest.3 c.if-count-eq0.false
