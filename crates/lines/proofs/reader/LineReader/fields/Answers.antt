use Rattle.lines.proofs.Lefts.{fields_leads}
use Rattle.lines.proofs.reader.LineReader.fields.Goals as goal

pub returns : goal.returns
returns c = fields_leads c.args.self.now _ c.in_ok-line.ensures _ c.fields.ensures
