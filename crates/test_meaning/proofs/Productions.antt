-- What small scripts mean, one or more for each production of the grammar,
-- by computing the definitions alone. tools/meanings writes this file.
use Rattle.std.specs.Prelude.{◌≡◌, [], ◌∷◌, codes, true, false, Some, None}
use Rattle.core.specs.Fmt.{digits}
use Rattle.std.proofs.Common.{refl}
use Rattle.std.proofs.Math.Utf8.{encode}
use Rattle.eval_tree.specs.Tree.{literal, number, variable, undefined, null, bool, nan, infinity, unary, chain, conditional, post, builtin, object, links}
use Rattle.eval_tree.specs.Tree.{steps, exprs, entries, of_length, of_description, of_call, of_index, of_property, block, let_line, const_line, assign, append}
use Rattle.eval_tree.specs.Tree.{print, if_line, for_line, arms}
use Rattle.js_search.specs.Places.{first, last}
use Rattle.js_replace.specs.Matches.{matches}
use Rattle.eval_values.specs.declared.value.Kind.TheVariants.{RangeError, TypeError, ReferenceError, UriError}
use Rattle.js_eval.specs.declared.ending.End.TheVariants.{Done, Threw, Unsupported}
use Rattle.js_eval.specs.Script.{turns}
use Rattle.test_meaning.specs.Means.{means, script, inside, when, to, member}
use Rattle.eval_tree.specs.declared.tree.Op.TheVariants as op
use Rattle.eval_tree.specs.declared.tree.Method.TheVariants as method
use Rattle.eval_tree.specs.declared.tree.Builtin.TheVariants as builtin

-- print('a'); print('b');
script_1 : means
    (script
    (codes "a" ∷ codes "b" ∷ [])
    (print (exprs (literal 0 ∷ [])) ∷ print (exprs (literal 1 ∷ [])) ∷ [])
    [])
    ≡ (Done, codes "a\nb\n")
unfolding encode digits turns first last matches
script_1 = refl

-- 'use strict'; print('a');
directive_1 : means
    (script (codes "a" ∷ []) (print (exprs (literal 0 ∷ [])) ∷ []) [])
    ≡ (Done, codes "a\n")
unfolding encode digits turns first last matches
directive_1 = refl

-- let x = 1; { let x = 2; print(x); } print(x);
block_1 : means
    (script
    []
    (let_line 4 (codes "x") (Some (number 1)) ∷
    block
    (inside
    (codes "x" ∷ [])
    (let_line 17 (codes "x") (Some (number 2)) ∷ print (exprs (variable (codes "x") ∷ [])) ∷ [])) ∷
    print (exprs (variable (codes "x") ∷ [])) ∷ [])
    (codes "x" ∷ []))
    ≡ (Done, codes "2\n1\n")
unfolding encode digits turns first last matches
block_1 = refl

-- let x; let y = 'a'; print(x, y);
let_1 : means
    (script
    (codes "a" ∷ [])
    (let_line 4 (codes "x") None ∷
    let_line 11 (codes "y") (Some (literal 0)) ∷
    print (exprs (variable (codes "x") ∷ variable (codes "y") ∷ [])) ∷ [])
    (codes "x" ∷ codes "y" ∷ []))
    ≡ (Done, codes "undefined a\n")
unfolding encode digits turns first last matches
let_1 = refl

-- const x = 'a'; print(x);
const_1 : means
    (script
    (codes "a" ∷ [])
    (const_line 6 (codes "x") (literal 0) ∷ print (exprs (variable (codes "x") ∷ [])) ∷ [])
    (codes "x" ∷ []))
    ≡ (Done, codes "a\n")
unfolding encode digits turns first last matches
const_1 = refl

-- const x = 'a'; x = 'b';
const_2 : means
    (script
    (codes "a" ∷ codes "b" ∷ [])
    (const_line 6 (codes "x") (literal 0) ∷ assign 15 (codes "x") (literal 1) ∷ [])
    (codes "x" ∷ []))
    ≡ (Threw TypeError, [])
unfolding encode digits turns first last matches
const_2 = refl

-- let x = 1; x = x + 1; print(x);
name_expr_1 : means
    (script
    []
    (let_line 4 (codes "x") (Some (number 1)) ∷
    assign 11 (codes "x") (chain (variable (codes "x")) (links (to 17 op.Plus (number 1) ∷ []))) ∷
    print (exprs (variable (codes "x") ∷ [])) ∷ [])
    (codes "x" ∷ []))
    ≡ (Done, codes "2\n")
unfolding encode digits turns first last matches
name_expr_1 = refl

-- x = 1;
name_expr_2 : means
    (script [] (assign 0 (codes "x") (number 1) ∷ []) [])
    ≡ (Threw ReferenceError, [])
unfolding encode digits turns first last matches
name_expr_2 = refl

-- let x = 'a'; x += 1; print(x);
name_expr_3 : means
    (script
    (codes "a" ∷ [])
    (let_line 4 (codes "x") (Some (literal 0)) ∷
    append 15 13 (codes "x") (number 1) ∷
    print (exprs (variable (codes "x") ∷ [])) ∷ [])
    (codes "x" ∷ []))
    ≡ (Done, codes "a1\n")
unfolding encode digits turns first last matches
name_expr_3 = refl

-- print(); print('a', 1, true);
print_1 : means
    (script
    (codes "a" ∷ [])
    (print (exprs []) ∷ print (exprs (literal 0 ∷ number 1 ∷ bool true ∷ [])) ∷ [])
    [])
    ≡ (Done, codes "\na 1 true\n")
unfolding encode digits turns first last matches
print_1 = refl

-- print('\u00e9\u20ac\u{1F600}\ud800');
print_2 : means
    (script ((233 ∷ 8364 ∷ 55357 ∷ 56832 ∷ 55296 ∷ []) ∷ []) (print (exprs (literal 0 ∷ [])) ∷ []) [])
    ≡ (Done, 195 ∷ 169 ∷ 226 ∷ 130 ∷ 172 ∷ 240 ∷ 159 ∷ 152 ∷ 128 ∷ 239 ∷ 191 ∷ 189 ∷ 10 ∷ [])
unfolding encode digits turns first last matches
print_2 = refl

-- if ('') { print(1); } else if (2) { print(2); } else { print(3); }
if_1 : means
    (script
    ([] ∷ [])
    (if_line
    (arms
    (when (literal 0) (inside [] (print (exprs (number 1 ∷ [])) ∷ [])) ∷
    when (number 2) (inside [] (print (exprs (number 2 ∷ [])) ∷ [])) ∷ []))
    (inside [] (print (exprs (number 3 ∷ [])) ∷ [])) ∷ [])
    [])
    ≡ (Done, codes "2\n")
unfolding encode digits turns first last matches
if_1 = refl

-- if (0) { print(1); } else { print(3); }
if_2 : means
    (script
    []
    (if_line
    (arms (when (number 0) (inside [] (print (exprs (number 1 ∷ [])) ∷ [])) ∷ []))
    (inside [] (print (exprs (number 3 ∷ [])) ∷ [])) ∷ [])
    [])
    ≡ (Done, codes "3\n")
unfolding encode digits turns first last matches
if_2 = refl

-- let s = ''; for (let i = 0; i < 3; i++) { s += i; } print(s);
for_1 : means
    (script
    ([] ∷ [])
    (let_line 4 (codes "s") (Some (literal 0)) ∷
    for_line (codes "i") 3 (inside [] (append 44 42 (codes "s") (variable (codes "i")) ∷ [])) ∷
    print (exprs (variable (codes "s") ∷ [])) ∷ [])
    (codes "s" ∷ []))
    ≡ (Done, codes "012\n")
unfolding encode digits turns first last matches
for_1 = refl

-- print(true ? 'a' : 'b', NaN ? 'a' : 'b');
expr_1 : means
    (script
    (codes "a" ∷ codes "b" ∷ codes "a" ∷ codes "b" ∷ [])
    (print
    (exprs
    (conditional (bool true) (literal 0) (literal 1) ∷ conditional nan (literal 2) (literal 3) ∷ [])) ∷ [])
    [])
    ≡ (Done, codes "a b\n")
unfolding encode digits turns first last matches
expr_1 = refl

-- print('' || 'a', 'a' || x);
or_1 : means
    (script
    ([] ∷ codes "a" ∷ codes "a" ∷ [])
    (print
    (exprs
    (chain (literal 0) (links (to 9 op.Or (literal 1) ∷ [])) ∷
    chain (literal 2) (links (to 21 op.Or (variable (codes "x")) ∷ [])) ∷ [])) ∷ [])
    [])
    ≡ (Done, codes "a a\n")
unfolding encode digits turns first last matches
or_1 = refl

-- print('' && x, 'a' && 'b');
and_1 : means
    (script
    ([] ∷ codes "a" ∷ codes "b" ∷ [])
    (print
    (exprs
    (chain (literal 0) (links (to 9 op.And (variable (codes "x")) ∷ [])) ∷
    chain (literal 1) (links (to 19 op.And (literal 2) ∷ [])) ∷ [])) ∷ [])
    [])
    ≡ (Done, codes " b\n")
unfolding encode digits turns first last matches
and_1 = refl

-- print(1 === 1, '1' === 1, NaN === NaN, 'a' !== 'b');
equal_1 : means
    (script
    (codes "1" ∷ codes "a" ∷ codes "b" ∷ [])
    (print
    (exprs
    (chain (number 1) (links (to 8 op.Same (number 1) ∷ [])) ∷
    chain (literal 0) (links (to 19 op.Same (number 1) ∷ [])) ∷
    chain nan (links (to 30 op.Same nan ∷ [])) ∷
    chain (literal 1) (links (to 43 op.NotSame (literal 2) ∷ [])) ∷ [])) ∷ [])
    [])
    ≡ (Done, codes "true false false true\n")
unfolding encode digits turns first last matches
equal_1 = refl

-- print('a' < 'b', 2 > 10, 'b' <= 'ab', 3 >= 3);
compare_1 : means
    (script
    (codes "a" ∷ codes "b" ∷ codes "b" ∷ codes "ab" ∷ [])
    (print
    (exprs
    (chain (literal 0) (links (to 10 op.Less (literal 1) ∷ [])) ∷
    chain (number 2) (links (to 19 op.Greater (number 10) ∷ [])) ∷
    chain (literal 2) (links (to 29 op.LessEq (literal 3) ∷ [])) ∷
    chain (number 3) (links (to 40 op.GreaterEq (number 3) ∷ [])) ∷ [])) ∷ [])
    [])
    ≡ (Done, codes "true false false true\n")
unfolding encode digits turns first last matches
compare_1 = refl

-- print(1 + 2 - 4, 1 + 2 + 'a' + 1 + 2);
sum_1 : means
    (script
    (codes "a" ∷ [])
    (print
    (exprs
    (chain (number 1) (links (to 8 op.Plus (number 2) ∷ to 12 op.Minus (number 4) ∷ [])) ∷
    chain
    (number 1)
    (links
    (to 19 op.Plus (number 2) ∷
    to 23 op.Plus (literal 0) ∷
    to 29 op.Plus (number 1) ∷
    to 33 op.Plus (number 2) ∷ [])) ∷ [])) ∷ [])
    [])
    ≡ (Done, codes "-1 3a12\n")
unfolding encode digits turns first last matches
sum_1 = refl

-- print(-5, -true, !'', !!'a');
unary_1 : means
    (script
    ([] ∷ codes "a" ∷ [])
    (print
    (exprs
    (unary 6 true (number 5) ∷
    unary 10 true (bool true) ∷
    unary 17 false (literal 0) ∷
    unary 22 false (unary 23 false (literal 1)) ∷ [])) ∷ [])
    [])
    ≡ (Done, codes "-5 -1 true true\n")
unfolding encode digits turns first last matches
unary_1 = refl

-- print('abc'.length, 'a,b'.split(',').length);
length_1 : means
    (script
    (codes "abc" ∷ codes "a,b" ∷ codes "," ∷ [])
    (print
    (exprs
    (post (literal 0) (steps (of_length ∷ [])) ∷
    post (literal 1) (steps (of_call 26 method.Split (exprs (literal 2 ∷ [])) ∷ of_length ∷ [])) ∷ [])) ∷ [])
    [])
    ≡ (Done, codes "3 2\n")
unfolding encode digits turns first last matches
length_1 = refl

-- print(null.length);
length_2 : means
    (script [] (print (exprs (post null (steps (of_length ∷ [])) ∷ [])) ∷ []) [])
    ≡ (Threw TypeError, [])
unfolding encode digits turns first last matches
length_2 = refl

-- print(Symbol.for('k').description, 'k'.description);
description_1 : means
    (script
    (codes "k" ∷ codes "k" ∷ [])
    (print
    (exprs
    (post (builtin 6 builtin.SymbolFor (exprs (literal 0 ∷ []))) (steps (of_description ∷ [])) ∷
    post (literal 1) (steps (of_description ∷ [])) ∷ [])) ∷ [])
    [])
    ≡ (Done, codes "k undefined\n")
unfolding encode digits turns first last matches
description_1 = refl

-- print({ a: 1, 'b c': 'x' }.a, { a: 1 }.b);
property_1 : means
    (script
    (codes "x" ∷ [])
    (print
    (exprs
    (post
    (object 6 (entries (member (codes "a") (number 1) ∷ member (codes "b c") (literal 0) ∷ [])))
    (steps (of_property 27 (codes "a") ∷ [])) ∷
    post
    (object 30 (entries (member (codes "a") (number 1) ∷ [])))
    (steps (of_property 39 (codes "b") ∷ [])) ∷ [])) ∷ [])
    [])
    ≡ (Done, codes "1 undefined\n")
unfolding encode digits turns first last matches
property_1 = refl

-- print('abc'[1], 'abc'[3], 'a,b'.split(',')[1], { a: 1 }['a']);
expr_2 : means
    (script
    (codes "abc" ∷ codes "abc" ∷ codes "a,b" ∷ codes "," ∷ codes "a" ∷ [])
    (print
    (exprs
    (post (literal 0) (steps (of_index 11 (number 1) ∷ [])) ∷
    post (literal 1) (steps (of_index 21 (number 3) ∷ [])) ∷
    post
    (literal 2)
    (steps (of_call 32 method.Split (exprs (literal 3 ∷ [])) ∷ of_index 42 (number 1) ∷ [])) ∷
    post
    (object 47 (entries (member (codes "a") (number 1) ∷ [])))
    (steps (of_index 55 (literal 4) ∷ [])) ∷ [])) ∷ [])
    [])
    ≡ (Done, codes "b undefined b 1\n")
unfolding encode digits turns first last matches
expr_2 = refl

-- print('a\x41\u0042\u{43}\'');
stringliteral_1 : means
    (script (codes "aABC'" ∷ []) (print (exprs (literal 0 ∷ [])) ∷ []) [])
    ≡ (Done, codes "aABC'\n")
unfolding encode digits turns first last matches
stringliteral_1 = refl

-- let x = 9007199254740991; print(x, undefined, null, true, false, NaN, Infinity);
number_name_undefined_null_true_false_nan_infinity_1 : means
    (script
    []
    (let_line 4 (codes "x") (Some (number 9007199254740991)) ∷
    print
    (exprs (variable (codes "x") ∷ undefined ∷ null ∷ bool true ∷ bool false ∷ nan ∷ infinity ∷ [])) ∷ [])
    (codes "x" ∷ []))
    ≡ (Done, codes "9007199254740991 undefined null true false NaN Infinity\n")
unfolding encode digits turns first last matches
number_name_undefined_null_true_false_nan_infinity_1 = refl

-- print(3 - (2 - 1));
expr_3 : means
    (script
    []
    (print
    (exprs
    (chain
    (number 3)
    (links (to 8 op.Minus (chain (number 2) (links (to 13 op.Minus (number 1) ∷ []))) ∷ [])) ∷ [])) ∷ [])
    [])
    ≡ (Done, codes "2\n")
unfolding encode digits turns first last matches
expr_3 = refl

-- print(JSON.stringify({ b: 'x', 2: null, 1: { c: NaN } }));
object_1 : means
    (script
    (codes "x" ∷ [])
    (print
    (exprs
    (builtin 6 builtin.Stringify
    (exprs
    (object 21
    (entries
    (member (codes "b") (literal 0) ∷
    member (codes "2") null ∷
    member (codes "1") (object 43 (entries (member (codes "c") nan ∷ []))) ∷ [])) ∷ [])) ∷ [])) ∷ [])
    [])
    ≡ (Done, codes "{\"1\":{\"c\":null},\"2\":null,\"b\":\"x\"}\n")
unfolding encode digits turns first last matches
object_1 = refl

-- print('a'); print(x); print('b');
the_ends_of_a_script_1 : means
    (script
    (codes "a" ∷ codes "b" ∷ [])
    (print (exprs (literal 0 ∷ [])) ∷
    print (exprs (variable (codes "x") ∷ [])) ∷
    print (exprs (literal 1 ∷ [])) ∷ [])
    [])
    ≡ (Threw ReferenceError, codes "a\n")
unfolding encode digits turns first last matches
the_ends_of_a_script_1 = refl

-- print('a'.repeat(-1));
the_ends_of_a_script_2 : means
    (script
    (codes "a" ∷ [])
    (print
    (exprs
    (post
    (literal 0)
    (steps (of_call 10 method.Repeat (exprs (unary 17 true (number 1) ∷ [])) ∷ [])) ∷ [])) ∷ [])
    [])
    ≡ (Threw RangeError, [])
unfolding encode digits turns first last matches
the_ends_of_a_script_2 = refl

-- print(decodeURI('%'));
the_ends_of_a_script_3 : means
    (script
    (codes "%" ∷ [])
    (print (exprs (builtin 6 builtin.DecodeUri (exprs (literal 0 ∷ [])) ∷ [])) ∷ [])
    [])
    ≡ (Threw UriError, [])
unfolding encode digits turns first last matches
the_ends_of_a_script_3 = refl

-- print(1 - '1');
the_ends_of_a_script_4 : means
    (script
    (codes "1" ∷ [])
    (print (exprs (chain (number 1) (links (to 8 op.Minus (literal 0) ∷ [])) ∷ [])) ∷ [])
    [])
    ≡ (Unsupported 8, [])
unfolding encode digits turns first last matches
the_ends_of_a_script_4 = refl
