-- One name that opens every definition: `unfolding opened` lets a closed term compute.
use Rattle.rules.specs.Bytes.{same}
use Rattle.rules.specs.Tests.{each, ever, every, any_of, total}
use Rattle.rules.specs.Number.{is_digit, leading_zero, is_number, value_from, value_of, digits_of, decimal}
use Rattle.rules.specs.Lines.{on_first, split_on, lines, ended, fields, behind, parted, line_of}
use Rattle.rules.specs.Fields.{◌>>=◌, within, number_field, rising, items, list_field, are_numbers, part_of}
use Rattle.rules.specs.HeaderLine.{header_of}
use Rattle.rules.specs.ActivityLine.{activity_of}
use Rattle.rules.specs.Order.{insert_by_priority, order}
use Rattle.rules.specs.Warmup.{apart, warmup_entry, warmup_at, warmup}
use Rattle.rules.specs.Hold.{holds}
use Rattle.rules.specs.MeetsW.{inside, allowed, meets_w}
use Rattle.rules.specs.MeetsD.{ended_by, meets_d}
use Rattle.rules.specs.MeetsU.{share, clash, meets_u, units_kept}
use Rattle.rules.specs.MeetsS.{given, over, standing, met, needs_kept, meets_s}
use Rattle.rules.specs.Load.{load, load_kept}
use Rattle.rules.specs.MeetsE.{engines_kept, meets_e}
use Rattle.rules.specs.MeetsP.{peaks_kept, meets_p}
use Rattle.rules.specs.MeetsB.{heats, drawn, smaller, charge, further, projected, projection, within_limits, charge_kept, meets_b}
use Rattle.rules.specs.MeetsV.{total_volume, volume_kept, meets_v}
use Rattle.rules.specs.MeetsH.{meets_h}
use Rattle.rules.specs.Conditions.{conditions, condition_letters, meets, has, meets_set, letters_from, letters_of}
use Rattle.rules.specs.Answer.{nearer, nearest, common, kept, letters, valid, answered, answer}
use Rattle.rules.specs.Outcomes.{starts, preferred_at, distance, reply, added, activity_at, placed, outcome, finished}
use Rattle.rules.specs.Reading.{formed, on_line, has_id, activity_lines, plan_lines, misplaced, line_number, out_of_reach, judged, after_lines, reading}
use Rattle.rules.specs.Runs.{with_start, runs_from}
use Rattle.rules.specs.Report.{outcome_line, outcome_lines, end_line, report, no_line, answer_to, output}
use Rattle.rules.specs.Calls.{outcome_values, outcome_terms, count_terms, outcome_of, outcome_call, slice_after, filling, report_of, report_call, runs, starts_of, starts_call}
use Rattle.rules.specs.Print.{list_text, window_text, setting_text, header_text, activity_text, activities_text, plan_text}

unfoldable pub opened : Unit {0}
unfolding same each ever every any_of total is_digit leading_zero is_number value_from value_of digits_of decimal on_first split_on lines ended fields behind parted line_of ◌>>=◌ within number_field rising items list_field are_numbers part_of header_of activity_of insert_by_priority order apart warmup_entry warmup_at warmup holds inside allowed meets_w ended_by meets_d share clash meets_u units_kept given over standing met needs_kept meets_s load load_kept engines_kept meets_e peaks_kept meets_p heats drawn smaller charge further projected projection within_limits charge_kept meets_b total_volume volume_kept meets_v meets_h conditions condition_letters meets has meets_set letters_from letters_of nearer nearest common kept letters valid answered answer starts preferred_at distance reply added activity_at placed outcome finished formed on_line has_id activity_lines plan_lines misplaced line_number out_of_reach judged after_lines reading with_start runs_from outcome_line outcome_lines end_line report no_line answer_to output outcome_values outcome_terms count_terms outcome_of outcome_call slice_after filling report_of report_call runs starts_of starts_call list_text window_text setting_text header_text activity_text activities_text plan_text
opened = tt
