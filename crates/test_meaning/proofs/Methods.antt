-- What small scripts mean, one or more for each method and built-in function,
-- by computing the definitions alone. tools/meanings writes this file.
use Rattle.std.specs.Prelude.{◌≡◌, [], ◌∷◌, codes, true}
use Rattle.core.specs.Fmt.{digits}
use Rattle.std.proofs.Common.{refl}
use Rattle.std.proofs.Math.Utf8.{encode}
use Rattle.eval_tree.specs.Tree.{literal, number, null, bool, unary, chain, post, builtin, object, links, steps, exprs, entries, of_length, of_description}
use Rattle.eval_tree.specs.Tree.{of_call, print}
use Rattle.js_search.specs.Places.{first, last}
use Rattle.js_replace.specs.Matches.{matches}
use Rattle.eval_values.specs.declared.value.Kind.TheVariants.{RangeError, TypeError}
use Rattle.js_eval.specs.declared.ending.End.TheVariants.{Done, Threw}
use Rattle.js_eval.specs.Script.{turns}
use Rattle.test_meaning.specs.Means.{means, script, to, member}
use Rattle.eval_tree.specs.declared.tree.Op.TheVariants as op
use Rattle.eval_tree.specs.declared.tree.Method.TheVariants as method
use Rattle.eval_tree.specs.declared.tree.Builtin.TheVariants as builtin

-- print('abc'.at(1), 'abc'.at(-1), 'abc'.at(3));
at_1 : means
    (script
    (codes "abc" ∷ codes "abc" ∷ codes "abc" ∷ [])
    (print
    (exprs
    (post (literal 0) (steps (of_call 12 method.At (exprs (number 1 ∷ [])) ∷ [])) ∷
    post (literal 1) (steps (of_call 25 method.At (exprs (unary 28 true (number 1) ∷ [])) ∷ [])) ∷
    post (literal 2) (steps (of_call 39 method.At (exprs (number 3 ∷ [])) ∷ [])) ∷ [])) ∷ [])
    [])
    ≡ (Done, codes "b c undefined\n")
unfolding encode digits turns first last matches
at_1 = refl

-- print('abc'.charAt(1), 'abc'.charAt(3) === '');
charat_1 : means
    (script
    (codes "abc" ∷ codes "abc" ∷ [] ∷ [])
    (print
    (exprs
    (post (literal 0) (steps (of_call 12 method.CharAt (exprs (number 1 ∷ [])) ∷ [])) ∷
    chain
    (post (literal 1) (steps (of_call 29 method.CharAt (exprs (number 3 ∷ [])) ∷ [])))
    (links (to 39 op.Same (literal 2) ∷ [])) ∷ [])) ∷ [])
    [])
    ≡ (Done, codes "b true\n")
unfolding encode digits turns first last matches
charat_1 = refl

-- print('abc'.charCodeAt(1), 'abc'.charCodeAt(3));
charcodeat_1 : means
    (script
    (codes "abc" ∷ codes "abc" ∷ [])
    (print
    (exprs
    (post (literal 0) (steps (of_call 12 method.CharCodeAt (exprs (number 1 ∷ [])) ∷ [])) ∷
    post (literal 1) (steps (of_call 33 method.CharCodeAt (exprs (number 3 ∷ [])) ∷ [])) ∷ [])) ∷ [])
    [])
    ≡ (Done, codes "98 NaN\n")
unfolding encode digits turns first last matches
charcodeat_1 = refl

-- print('\u{1F600}'.codePointAt(0), '\u{1F600}'.codePointAt(1), ''.codePointAt(0));
codepointat_1 : means
    (script
    ((55357 ∷ 56832 ∷ []) ∷ (55357 ∷ 56832 ∷ []) ∷ [] ∷ [])
    (print
    (exprs
    (post (literal 0) (steps (of_call 18 method.CodePointAt (exprs (number 0 ∷ [])) ∷ [])) ∷
    post (literal 1) (steps (of_call 46 method.CodePointAt (exprs (number 1 ∷ [])) ∷ [])) ∷
    post (literal 2) (steps (of_call 65 method.CodePointAt (exprs (number 0 ∷ [])) ∷ [])) ∷ [])) ∷ [])
    [])
    ≡ (Done, codes "128512 56832 undefined\n")
unfolding encode digits turns first last matches
codepointat_1 = refl

-- print('abc'.endsWith('c'), 'abc'.endsWith('b'), 'abc'.endsWith('b', 2));
endswith_1 : means
    (script
    (codes "abc" ∷ codes "c" ∷ codes "abc" ∷ codes "b" ∷ codes "abc" ∷ codes "b" ∷ [])
    (print
    (exprs
    (post (literal 0) (steps (of_call 12 method.EndsWith (exprs (literal 1 ∷ [])) ∷ [])) ∷
    post (literal 2) (steps (of_call 33 method.EndsWith (exprs (literal 3 ∷ [])) ∷ [])) ∷
    post
    (literal 4)
    (steps (of_call 54 method.EndsWith (exprs (literal 5 ∷ number 2 ∷ [])) ∷ [])) ∷ [])) ∷ [])
    [])
    ≡ (Done, codes "true false true\n")
unfolding encode digits turns first last matches
endswith_1 = refl

-- print('abc'.includes('bc'), 'abc'.includes('a', 1));
includes_1 : means
    (script
    (codes "abc" ∷ codes "bc" ∷ codes "abc" ∷ codes "a" ∷ [])
    (print
    (exprs
    (post (literal 0) (steps (of_call 12 method.Includes (exprs (literal 1 ∷ [])) ∷ [])) ∷
    post
    (literal 2)
    (steps (of_call 34 method.Includes (exprs (literal 3 ∷ number 1 ∷ [])) ∷ [])) ∷ [])) ∷ [])
    [])
    ≡ (Done, codes "true false\n")
unfolding encode digits turns first last matches
includes_1 = refl

-- print('abcabc'.indexOf('c'), 'abcabc'.indexOf('c', 3), 'abc'.indexOf('d'));
indexof_1 : means
    (script
    (codes "abcabc" ∷ codes "c" ∷ codes "abcabc" ∷ codes "c" ∷ codes "abc" ∷ codes "d" ∷ [])
    (print
    (exprs
    (post (literal 0) (steps (of_call 15 method.IndexOf (exprs (literal 1 ∷ [])) ∷ [])) ∷
    post (literal 2) (steps (of_call 38 method.IndexOf (exprs (literal 3 ∷ number 3 ∷ [])) ∷ [])) ∷
    post (literal 4) (steps (of_call 61 method.IndexOf (exprs (literal 5 ∷ [])) ∷ [])) ∷ [])) ∷ [])
    [])
    ≡ (Done, codes "2 5 -1\n")
unfolding encode digits turns first last matches
indexof_1 = refl

-- print('abcabc'.lastIndexOf('c'), 'abcabc'.lastIndexOf('c', 4), 'abc'.lastIndexOf('d'));
lastindexof_1 : means
    (script
    (codes "abcabc" ∷ codes "c" ∷ codes "abcabc" ∷ codes "c" ∷ codes "abc" ∷ codes "d" ∷ [])
    (print
    (exprs
    (post (literal 0) (steps (of_call 15 method.LastIndexOf (exprs (literal 1 ∷ [])) ∷ [])) ∷
    post (literal 2) (steps (of_call 42 method.LastIndexOf (exprs (literal 3 ∷ number 4 ∷ [])) ∷ [])) ∷
    post (literal 4) (steps (of_call 69 method.LastIndexOf (exprs (literal 5 ∷ [])) ∷ [])) ∷ [])) ∷ [])
    [])
    ≡ (Done, codes "5 2 -1\n")
unfolding encode digits turns first last matches
lastindexof_1 = refl

-- print('abc'.startsWith('ab'), 'abc'.startsWith('b'), 'abc'.startsWith('b', 1));
startswith_1 : means
    (script
    (codes "abc" ∷ codes "ab" ∷ codes "abc" ∷ codes "b" ∷ codes "abc" ∷ codes "b" ∷ [])
    (print
    (exprs
    (post (literal 0) (steps (of_call 12 method.StartsWith (exprs (literal 1 ∷ [])) ∷ [])) ∷
    post (literal 2) (steps (of_call 36 method.StartsWith (exprs (literal 3 ∷ [])) ∷ [])) ∷
    post
    (literal 4)
    (steps (of_call 59 method.StartsWith (exprs (literal 5 ∷ number 1 ∷ [])) ∷ [])) ∷ [])) ∷ [])
    [])
    ≡ (Done, codes "true false true\n")
unfolding encode digits turns first last matches
startswith_1 = refl

-- print('abcdef'.slice(1, 3), 'abcdef'.slice(-3, -1), 'abc'.slice(2));
slice_1 : means
    (script
    (codes "abcdef" ∷ codes "abcdef" ∷ codes "abc" ∷ [])
    (print
    (exprs
    (post (literal 0) (steps (of_call 15 method.Slice (exprs (number 1 ∷ number 3 ∷ [])) ∷ [])) ∷
    post
    (literal 1)
    (steps
    (of_call 37 method.Slice (exprs (unary 43 true (number 3) ∷ unary 47 true (number 1) ∷ [])) ∷ [])) ∷
    post (literal 2) (steps (of_call 58 method.Slice (exprs (number 2 ∷ [])) ∷ [])) ∷ [])) ∷ [])
    [])
    ≡ (Done, codes "bc de c\n")
unfolding encode digits turns first last matches
slice_1 = refl

-- print('abcdef'.substr(1, 3), 'abcdef'.substr(-3, 2));
substr_1 : means
    (script
    (codes "abcdef" ∷ codes "abcdef" ∷ [])
    (print
    (exprs
    (post (literal 0) (steps (of_call 15 method.Substr (exprs (number 1 ∷ number 3 ∷ [])) ∷ [])) ∷
    post
    (literal 1)
    (steps (of_call 38 method.Substr (exprs (unary 45 true (number 3) ∷ number 2 ∷ [])) ∷ [])) ∷ [])) ∷ [])
    [])
    ≡ (Done, codes "bcd de\n")
unfolding encode digits turns first last matches
substr_1 = refl

-- print('abcdef'.substring(1, 3), 'abcdef'.substring(3, 1), 'abcdef'.substring(-3, 2));
substring_1 : means
    (script
    (codes "abcdef" ∷ codes "abcdef" ∷ codes "abcdef" ∷ [])
    (print
    (exprs
    (post (literal 0) (steps (of_call 15 method.Substring (exprs (number 1 ∷ number 3 ∷ [])) ∷ [])) ∷
    post (literal 1) (steps (of_call 41 method.Substring (exprs (number 3 ∷ number 1 ∷ [])) ∷ [])) ∷
    post
    (literal 2)
    (steps (of_call 67 method.Substring (exprs (unary 77 true (number 3) ∷ number 2 ∷ [])) ∷ [])) ∷ [])) ∷ [])
    [])
    ≡ (Done, codes "bc bc ab\n")
unfolding encode digits turns first last matches
substring_1 = refl

-- print('[' + ' \t\u2003a b\n'.trim() + ']');
trim_1 : means
    (script
    (codes "[" ∷ (32 ∷ 9 ∷ 8195 ∷ 97 ∷ 32 ∷ 98 ∷ 10 ∷ []) ∷ codes "]" ∷ [])
    (print
    (exprs
    (chain
    (literal 0)
    (links
    (to 10 op.Plus (post (literal 1) (steps (of_call 29 method.Trim (exprs []) ∷ []))) ∷
    to 36 op.Plus (literal 2) ∷ [])) ∷ [])) ∷ [])
    [])
    ≡ (Done, codes "[a b]\n")
unfolding encode digits turns first last matches
trim_1 = refl

-- print('[' + ' a b '.trimEnd() + ']');
trimend_1 : means
    (script
    (codes "[" ∷ codes " a b " ∷ codes "]" ∷ [])
    (print
    (exprs
    (chain
    (literal 0)
    (links
    (to 10 op.Plus (post (literal 1) (steps (of_call 20 method.TrimEnd (exprs []) ∷ []))) ∷
    to 30 op.Plus (literal 2) ∷ [])) ∷ [])) ∷ [])
    [])
    ≡ (Done, codes "[ a b]\n")
unfolding encode digits turns first last matches
trimend_1 = refl

-- print('[' + ' a b '.trimStart() + ']');
trimstart_1 : means
    (script
    (codes "[" ∷ codes " a b " ∷ codes "]" ∷ [])
    (print
    (exprs
    (chain
    (literal 0)
    (links
    (to 10 op.Plus (post (literal 1) (steps (of_call 20 method.TrimStart (exprs []) ∷ []))) ∷
    to 32 op.Plus (literal 2) ∷ [])) ∷ [])) ∷ [])
    [])
    ≡ (Done, codes "[a b ]\n")
unfolding encode digits turns first last matches
trimstart_1 = refl

-- print('a'.concat('b', 1, null));
concat_1 : means
    (script
    (codes "a" ∷ codes "b" ∷ [])
    (print
    (exprs
    (post
    (literal 0)
    (steps (of_call 10 method.Concat (exprs (literal 1 ∷ number 1 ∷ null ∷ [])) ∷ [])) ∷ [])) ∷ [])
    [])
    ≡ (Done, codes "ab1null\n")
unfolding encode digits turns first last matches
concat_1 = refl

-- print('a'.padEnd(3) + '|', 'a'.padEnd(6, 'xy'), 'abc'.padEnd(2));
padend_1 : means
    (script
    (codes "a" ∷ codes "|" ∷ codes "a" ∷ codes "xy" ∷ codes "abc" ∷ [])
    (print
    (exprs
    (chain
    (post (literal 0) (steps (of_call 10 method.PadEnd (exprs (number 3 ∷ [])) ∷ [])))
    (links (to 20 op.Plus (literal 1) ∷ [])) ∷
    post (literal 2) (steps (of_call 31 method.PadEnd (exprs (number 6 ∷ literal 3 ∷ [])) ∷ [])) ∷
    post (literal 4) (steps (of_call 54 method.PadEnd (exprs (number 2 ∷ [])) ∷ [])) ∷ [])) ∷ [])
    [])
    ≡ (Done, codes "a  | axyxyx abc\n")
unfolding encode digits turns first last matches
padend_1 = refl

-- print('a'.padStart(3), 'a'.padStart(6, 'xy'));
padstart_1 : means
    (script
    (codes "a" ∷ codes "a" ∷ codes "xy" ∷ [])
    (print
    (exprs
    (post (literal 0) (steps (of_call 10 method.PadStart (exprs (number 3 ∷ [])) ∷ [])) ∷
    post
    (literal 1)
    (steps (of_call 27 method.PadStart (exprs (number 6 ∷ literal 2 ∷ [])) ∷ [])) ∷ [])) ∷ [])
    [])
    ≡ (Done, codes "  a xyxyxa\n")
unfolding encode digits turns first last matches
padstart_1 = refl

-- print('ab'.repeat(3), 'ab'.repeat(0) === '');
repeat_1 : means
    (script
    (codes "ab" ∷ codes "ab" ∷ [] ∷ [])
    (print
    (exprs
    (post (literal 0) (steps (of_call 11 method.Repeat (exprs (number 3 ∷ [])) ∷ [])) ∷
    chain
    (post (literal 1) (steps (of_call 27 method.Repeat (exprs (number 0 ∷ [])) ∷ [])))
    (links (to 37 op.Same (literal 2) ∷ [])) ∷ [])) ∷ [])
    [])
    ≡ (Done, codes "ababab true\n")
unfolding encode digits turns first last matches
repeat_1 = refl

-- print('a\ud83d'.toWellFormed() === 'a\ufffd', '\u{1F600}'.toWellFormed().length);
towellformed_1 : means
    (script
    ((97 ∷ 55357 ∷ []) ∷ (97 ∷ 65533 ∷ []) ∷ (55357 ∷ 56832 ∷ []) ∷ [])
    (print
    (exprs
    (chain
    (post (literal 0) (steps (of_call 16 method.ToWellFormed (exprs []) ∷ [])))
    (links (to 31 op.Same (literal 1) ∷ [])) ∷
    post (literal 2) (steps (of_call 58 method.ToWellFormed (exprs []) ∷ of_length ∷ [])) ∷ [])) ∷ [])
    [])
    ≡ (Done, codes "true 2\n")
unfolding encode digits turns first last matches
towellformed_1 = refl

-- print('aXbX'.replace('X', '[$&$$]'), 'abc'.replace('b', "$`$'"));
replace_1 : means
    (script
    (codes "aXbX" ∷ codes "X" ∷ codes "[$&$$]" ∷ codes "abc" ∷ codes "b" ∷ codes "$`$'" ∷ [])
    (print
    (exprs
    (post (literal 0) (steps (of_call 13 method.Replace (exprs (literal 1 ∷ literal 2 ∷ [])) ∷ [])) ∷
    post
    (literal 3)
    (steps (of_call 43 method.Replace (exprs (literal 4 ∷ literal 5 ∷ [])) ∷ [])) ∷ [])) ∷ [])
    [])
    ≡ (Done, codes "a[X$]bX aacc\n")
unfolding encode digits turns first last matches
replace_1 = refl

-- print('aXbX'.replaceAll('X', '--'), 'ab'.replaceAll('', '.'));
replaceall_1 : means
    (script
    (codes "aXbX" ∷ codes "X" ∷ codes "--" ∷ codes "ab" ∷ [] ∷ codes "." ∷ [])
    (print
    (exprs
    (post (literal 0) (steps (of_call 13 method.ReplaceAll (exprs (literal 1 ∷ literal 2 ∷ [])) ∷ [])) ∷
    post
    (literal 3)
    (steps (of_call 41 method.ReplaceAll (exprs (literal 4 ∷ literal 5 ∷ [])) ∷ [])) ∷ [])) ∷ [])
    [])
    ≡ (Done, codes "a--b-- .a.b.\n")
unfolding encode digits turns first last matches
replaceall_1 = refl

-- print('a,b,,c'.split(',', 3).join('|'), 'abc'.split('').join('|'));
split_1 : means
    (script
    (codes "a,b,,c" ∷ codes "," ∷ codes "|" ∷ codes "abc" ∷ [] ∷ codes "|" ∷ [])
    (print
    (exprs
    (post
    (literal 0)
    (steps
    (of_call 15 method.Split (exprs (literal 1 ∷ number 3 ∷ [])) ∷
    of_call 29 method.Join (exprs (literal 2 ∷ [])) ∷ [])) ∷
    post
    (literal 3)
    (steps
    (of_call 46 method.Split (exprs (literal 4 ∷ [])) ∷
    of_call 56 method.Join (exprs (literal 5 ∷ [])) ∷ [])) ∷ [])) ∷ [])
    [])
    ≡ (Done, codes "a|b| a|b|c\n")
unfolding encode digits turns first last matches
split_1 = refl

-- print('a,b,c'.split(',').join('--'), 'a,b'.split(',').join());
join_1 : means
    (script
    (codes "a,b,c" ∷ codes "," ∷ codes "--" ∷ codes "a,b" ∷ codes "," ∷ [])
    (print
    (exprs
    (post
    (literal 0)
    (steps
    (of_call 14 method.Split (exprs (literal 1 ∷ [])) ∷
    of_call 25 method.Join (exprs (literal 2 ∷ [])) ∷ [])) ∷
    post
    (literal 3)
    (steps
    (of_call 43 method.Split (exprs (literal 4 ∷ [])) ∷ of_call 54 method.Join (exprs []) ∷ [])) ∷ [])) ∷ [])
    [])
    ≡ (Done, codes "a--b--c a,b\n")
unfolding encode digits turns first last matches
join_1 = refl

-- print('a\u{1F600}'.isWellFormed(), 'a\ud83d'.isWellFormed());
iswellformed_1 : means
    (script
    ((97 ∷ 55357 ∷ 56832 ∷ []) ∷ (97 ∷ 55357 ∷ []) ∷ [])
    (print
    (exprs
    (post (literal 0) (steps (of_call 19 method.IsWellFormed (exprs []) ∷ [])) ∷
    post (literal 1) (steps (of_call 45 method.IsWellFormed (exprs []) ∷ [])) ∷ [])) ∷ [])
    [])
    ≡ (Done, codes "true false\n")
unfolding encode digits turns first last matches
iswellformed_1 = refl

-- print(String() === '', String(true), String(Symbol.for('k')));
string_1 : means
    (script
    ([] ∷ codes "k" ∷ [])
    (print
    (exprs
    (chain (builtin 6 builtin.String (exprs [])) (links (to 15 op.Same (literal 0) ∷ [])) ∷
    builtin 23 builtin.String (exprs (bool true ∷ [])) ∷
    builtin 37 builtin.String
    (exprs (builtin 44 builtin.SymbolFor (exprs (literal 1 ∷ [])) ∷ [])) ∷ [])) ∷ [])
    [])
    ≡ (Done, codes "true true Symbol(k)\n")
unfolding encode digits turns first last matches
string_1 = refl

-- print(String.fromCharCode(97, 65634), String.fromCharCode(55357, 56832));
string_fromcharcode_1 : means
    (script
    []
    (print
    (exprs
    (builtin 6 builtin.FromCharCode (exprs (number 97 ∷ number 65634 ∷ [])) ∷
    builtin 38 builtin.FromCharCode (exprs (number 55357 ∷ number 56832 ∷ [])) ∷ [])) ∷ [])
    [])
    ≡ (Done, 97 ∷ 98 ∷ 32 ∷ 240 ∷ 159 ∷ 152 ∷ 128 ∷ 10 ∷ [])
unfolding encode digits turns first last matches
string_fromcharcode_1 = refl

-- print(String.fromCodePoint(97, 128512));
string_fromcodepoint_1 : means
    (script
    []
    (print (exprs (builtin 6 builtin.FromCodePoint (exprs (number 97 ∷ number 128512 ∷ [])) ∷ [])) ∷ [])
    [])
    ≡ (Done, 97 ∷ 240 ∷ 159 ∷ 152 ∷ 128 ∷ 10 ∷ [])
unfolding encode digits turns first last matches
string_fromcodepoint_1 = refl

-- print(String.fromCodePoint(-1));
string_fromcodepoint_2 : means
    (script
    []
    (print (exprs (builtin 6 builtin.FromCodePoint (exprs (unary 27 true (number 1) ∷ [])) ∷ [])) ∷ [])
    [])
    ≡ (Threw RangeError, [])
unfolding encode digits turns first last matches
string_fromcodepoint_2 = refl

-- print(Symbol.for('k') === Symbol.for('k'), Symbol.for(1).description);
symbol_for_1 : means
    (script
    (codes "k" ∷ codes "k" ∷ [])
    (print
    (exprs
    (chain
    (builtin 6 builtin.SymbolFor (exprs (literal 0 ∷ [])))
    (links (to 22 op.Same (builtin 26 builtin.SymbolFor (exprs (literal 1 ∷ []))) ∷ [])) ∷
    post (builtin 43 builtin.SymbolFor (exprs (number 1 ∷ []))) (steps (of_description ∷ [])) ∷ [])) ∷ [])
    [])
    ≡ (Done, codes "true 1\n")
unfolding encode digits turns first last matches
symbol_for_1 = refl

-- print(Symbol.keyFor(Symbol.for('k')));
symbol_keyfor_1 : means
    (script
    (codes "k" ∷ [])
    (print
    (exprs
    (builtin 6 builtin.KeyFor (exprs (builtin 20 builtin.SymbolFor (exprs (literal 0 ∷ [])) ∷ [])) ∷ [])) ∷ [])
    [])
    ≡ (Done, codes "k\n")
unfolding encode digits turns first last matches
symbol_keyfor_1 = refl

-- print(Symbol.keyFor('k'));
symbol_keyfor_2 : means
    (script (codes "k" ∷ []) (print (exprs (builtin 6 builtin.KeyFor (exprs (literal 0 ∷ [])) ∷ [])) ∷ []) [])
    ≡ (Threw TypeError, [])
unfolding encode digits turns first last matches
symbol_keyfor_2 = refl

-- print(JSON.stringify('a"\\\n\u0001\ud800'), JSON.stringify('a,b'.split(',')));
json_stringify_1 : means
    (script
    ((97 ∷ 34 ∷ 92 ∷ 10 ∷ 1 ∷ 55296 ∷ []) ∷ codes "a,b" ∷ codes "," ∷ [])
    (print
    (exprs
    (builtin 6 builtin.Stringify (exprs (literal 0 ∷ [])) ∷
    builtin 44 builtin.Stringify
    (exprs
    (post (literal 1) (steps (of_call 65 method.Split (exprs (literal 2 ∷ [])) ∷ [])) ∷ [])) ∷ [])) ∷ [])
    [])
    ≡ (Done, codes "\"a\\\"\\\\\\n\\u0001\\ud800\" [\"a\",\"b\"]\n")
unfolding encode digits turns first last matches
json_stringify_1 = refl

-- print(encodeURIComponent('a b/\u00e9\u{1F600}'));
encodeuricomponent_1 : means
    (script
    ((97 ∷ 32 ∷ 98 ∷ 47 ∷ 233 ∷ 55357 ∷ 56832 ∷ []) ∷ [])
    (print (exprs (builtin 6 builtin.EncodeUriComponent (exprs (literal 0 ∷ [])) ∷ [])) ∷ [])
    [])
    ≡ (Done, codes "a%20b%2F%C3%A9%F0%9F%98%80\n")
unfolding encode digits turns first last matches
encodeuricomponent_1 = refl

-- print(encodeURI('a b/\u00e9'));
encodeuri_1 : means
    (script
    ((97 ∷ 32 ∷ 98 ∷ 47 ∷ 233 ∷ []) ∷ [])
    (print (exprs (builtin 6 builtin.EncodeUri (exprs (literal 0 ∷ [])) ∷ [])) ∷ [])
    [])
    ≡ (Done, codes "a%20b/%C3%A9\n")
unfolding encode digits turns first last matches
encodeuri_1 = refl

-- print(decodeURIComponent('%61%2F%C3%A9'));
decodeuricomponent_1 : means
    (script
    (codes "%61%2F%C3%A9" ∷ [])
    (print (exprs (builtin 6 builtin.DecodeUriComponent (exprs (literal 0 ∷ [])) ∷ [])) ∷ [])
    [])
    ≡ (Done, 97 ∷ 47 ∷ 195 ∷ 169 ∷ 10 ∷ [])
unfolding encode digits turns first last matches
decodeuricomponent_1 = refl

-- print(decodeURI('%61%2F%C3%A9'));
decodeuri_1 : means
    (script
    (codes "%61%2F%C3%A9" ∷ [])
    (print (exprs (builtin 6 builtin.DecodeUri (exprs (literal 0 ∷ [])) ∷ [])) ∷ [])
    [])
    ≡ (Done, 97 ∷ 37 ∷ 50 ∷ 70 ∷ 195 ∷ 169 ∷ 10 ∷ [])
unfolding encode digits turns first last matches
decodeuri_1 = refl

-- print(Object.keys({ b: 1, 2: 1, 1: 1 }).join());
object_keys_1 : means
    (script
    []
    (print
    (exprs
    (post
    (builtin 6 builtin.Keys
    (exprs
    (object 18
    (entries
    (member (codes "b") (number 1) ∷
    member (codes "2") (number 1) ∷
    member (codes "1") (number 1) ∷ [])) ∷ [])))
    (steps (of_call 40 method.Join (exprs []) ∷ [])) ∷ [])) ∷ [])
    [])
    ≡ (Done, codes "1,2,b\n")
unfolding encode digits turns first last matches
object_keys_1 = refl
