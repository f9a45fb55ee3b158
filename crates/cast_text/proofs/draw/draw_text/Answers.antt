use Rattle.std.proofs.lemmas.Result.{err_from_is_err_and}
use Rattle.cast_text.proofs.DrawingLemmas.{drawing_done, drawing_breaks, drawing_refused}
use Rattle.cast_text.proofs.draw.draw_text.Goals as goal

pub returns-clause-exact : goal.returns-clause-exact
returns-clause-exact g c =
    drawing_done c.args.window (g.R.Read.remaining c.args.reader.now.inner) (g.W.Write.contents c.args.writer.now.inner) (g.W.Write.contents c.write_drawing.new.writer.inner) c.write_drawing.new.writer.failed
    c.in_ok-script.script c.in_ok-picture.picture c.in_ok-drawing.drawing c.in_ok-script.ensures.ok c.in_ok-picture.ensures.ok c.in_ok-write_drawing.ensures

pub returns-in_err-write_drawing-clause-exact : goal.returns-in_err-write_drawing-clause-exact
returns-in_err-write_drawing-clause-exact g c =
    let p = err_from_is_err_and c.from_residual-in_err-write_drawing.result c.from_residual-in_err-write_drawing.ensures.1 in
    rw (p.1, p.2)
    (drawing_breaks c.args.window (g.R.Read.remaining c.args.reader.now.inner) (g.W.Write.contents c.args.writer.now.inner) (g.W.Write.contents c.write_drawing.new.writer.inner) c.write_drawing.new.writer.failed
    c.in_ok-script.script c.in_ok-picture.picture c.in_ok-drawing.drawing c.in_ok-script.ensures.ok c.in_ok-picture.ensures.ok c.in_err-write_drawing.ensures)

pub returns-in_err-picture-clause-exact : goal.returns-in_err-picture-clause-exact
returns-in_err-picture-clause-exact g c =
    let p = err_from_is_err_and c.from_residual-in_err-picture.result c.from_residual-in_err-picture.ensures.1 in
    rw (p.1, p.2, c.in_err-picture.ensures.err)
    (drawing_refused c.args.window (g.R.Read.remaining c.args.reader.now.inner) (g.W.Write.contents c.args.writer.now.inner) c.read_script_text.new.reader.failed c.args.writer.now.failed
    c.in_ok-script.script c.in_ok-script.ensures.ok)

pub returns-in_err-drawing-clause-exact : goal.returns-in_err-drawing-clause-exact
returns-in_err-drawing-clause-exact g c =
    let p = err_from_is_err_and c.from_residual-in_err-drawing.result c.from_residual-in_err-drawing.ensures.1 in
    rw (p.1, p.2)
    (drawing_refused c.args.window (g.R.Read.remaining c.args.reader.now.inner) (g.W.Write.contents c.args.writer.now.inner) c.read_script_text.new.reader.failed c.args.writer.now.failed
    c.in_ok-script.script c.in_ok-script.ensures.ok)
