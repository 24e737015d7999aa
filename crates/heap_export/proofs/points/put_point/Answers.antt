use Rattle.heap_export.proofs.Bytes.{put_two, put_three, put_four}
use Rattle.heap_export.proofs.points.put_point.Goals as goal

pub returns-then-c-lt2048-clause-bytes : goal.returns-then-c-lt2048-clause-bytes
returns-then-c-lt2048-clause-bytes c = put_two c.args.c c.args.out.now c.requires.room c.if-c-lt128.false c.if-c-lt2048.true

pub returns-then-c-lt65536-clause-bytes : goal.returns-then-c-lt65536-clause-bytes
returns-then-c-lt65536-clause-bytes c = put_three c.args.c c.args.out.now c.requires.room c.if-c-lt2048.false c.if-c-lt65536.true

pub returns-clause-bytes : goal.returns-clause-bytes
returns-clause-bytes c = put_four c.args.c c.args.out.now c.requires.room c.if-c-lt65536.false
