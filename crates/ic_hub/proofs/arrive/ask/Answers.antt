use Rattle.std.proofs.Common.{true, false, ap}
use Rattle.ic_header.specs.Packets.{is_rows, is_last}
use Rattle.ic_hub.proofs.ComingSteps.{asks_rows, asks_query}
use Rattle.ic_hub.proofs.arrive.ask.Goals as goal

pub returns-in-Rows-clause-asks : goal.returns-in-Rows-clause-asks
returns-in-Rows-clause-asks c =
    asks_rows c.args.head.now c.args.body.now c.args.receiver.now c.on_packet.new.self c.on_packet.result false (ap is_rows c.in-Rows.is) (ap is_last c.in-Rows.is) c.on_packet.ensures.hears c.on_packet.ensures.stands

pub returns-in-LastRows-clause-asks : goal.returns-in-LastRows-clause-asks
returns-in-LastRows-clause-asks c =
    asks_rows c.args.head.now c.args.body.now c.args.receiver.now c.on_packet-in-LastRows.new.self c.on_packet-in-LastRows.result true (ap is_rows c.in-LastRows.is) (ap is_last c.in-LastRows.is) c.on_packet-in-LastRows.ensures.hears
    c.on_packet-in-LastRows.ensures.stands

pub returns-in-Query-clause-asks : goal.returns-in-Query-clause-asks
returns-in-Query-clause-asks c =
    asks_query c.args.head.now c.args.body.now c.args.receiver.now c.on_query.new.self c.on_query.result c.in-Query.is c.on_query.ensures.hears c.on_query.ensures.same c.on_query.ensures.stands
