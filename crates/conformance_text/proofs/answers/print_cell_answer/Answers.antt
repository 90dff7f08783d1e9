use Rattle.conformance_text.proofs.answers.print_cell_answer.Goals as goal

pub returns-in-Ok : goal.returns-in-Ok
returns-in-Ok c =
    let cell-values = c.cell_values-v in
    let print-numbers = c.print_numbers in
    rw c.in-Ok.is (rw cell-values.ensures at print-numbers.ensures)

pub returns-in-Err : goal.returns-in-Err
returns-in-Err c =
    rw c.in-Err.is c.print_numbers-in-Err.ensures
