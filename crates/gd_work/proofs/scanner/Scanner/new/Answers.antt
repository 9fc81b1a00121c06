use Rattle.gd_work.specs.declared.course.Course.TheVariants as courses
use Rattle.gd_work.proofs.Sent.{seen, seen_fresh, fresh_scans}
use Rattle.gd_work.proofs.scanner.Scanner.new.Goals as goal

pub returns-clause-scans : goal.returns-clause-scans
returns-clause-scans c =
    fresh_scans c.args.motion c.args.to c.args.packet (seen c.args.motion c.args.to c.in_ok-new.field-0 courses.Going) (seen_fresh c.args.motion c.args.to c.args.packet c.in_ok-new.field-0 c.in_ok-new.ensures)
