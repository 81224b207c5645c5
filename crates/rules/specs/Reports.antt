-- An answer by its numbers and its lists, as a host that knows only numbers reads it.
use Rattle.rules.specs.declared.report.Report.{Report}
use Rattle.rules.specs.Answers.{Answer, answer_refusal, answer_note, answer_value, answer_sent, answer_ends}

abbrev pub report_of : Answer → Report
report_of a = record { refusal = answer_refusal a; note = answer_note a; value = answer_value a; sent = answer_sent a; ends = answer_ends a }
