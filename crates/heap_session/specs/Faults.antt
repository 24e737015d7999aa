-- What a refusal of the heap is as a fault of a store.
use Rattle.js_store.specs.declared.faults.ConcatFault.{ConcatFault}
use Rattle.js_store.specs.declared.faults.ConcatFault.TheVariants.{Store, TooLong}
use Rattle.js_store.specs.declared.faults.FullReport.TheVariants as report
use Rattle.js_store.specs.declared.faults.StoreFault.{StoreFault}
use Rattle.js_store.specs.declared.faults.StoreFault.TheVariants.{Full}
use Rattle.heap_intern.specs.declared.table.faults.TableFull.{TableFull}
use Rattle.heap_intern.specs.declared.table.faults.TableFull.TheVariants as table
use Rattle.heap_text.specs.declared.faults.JoinFault.{JoinFault}
use Rattle.heap_text.specs.declared.faults.JoinFault.TheVariants as join
use Rattle.heap_text.specs.declared.faults.TextFull.{TextFull}
use Rattle.heap_text.specs.declared.faults.TextFull.TheVariants as text

abbrev pub fault_in_text : TextFull → StoreFault
fault_in_text (text.Ids f) = Full (report.Ids f.at f.want f.end)
fault_in_text (text.Words f) = Full (report.Words f.at f.want f.end)

abbrev pub fault_in_table : TableFull → StoreFault
fault_in_table (table.Ids f) = Full (report.Ids f.at f.want f.end)
fault_in_table (table.Words f) = Full (report.Words f.at f.want f.end)
fault_in_table (table.Slots slots) = Full (report.Slots slots)

abbrev pub fault_in_join : JoinFault → ConcatFault
fault_in_join (join.TooLong left right) = TooLong left right
fault_in_join (join.Full f) = Store (fault_in_text f)
